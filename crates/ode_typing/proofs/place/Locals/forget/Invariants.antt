use Rattle.std.proofs.Common.{◌≡◌, ◌≤◌, take, length}
use Rattle.ode_typing.proofs.place.Locals.forget.Given as goal

abbrev pub invariant-loop-self : goal.invariant-loop-self
invariant-loop-self l = record {
  seen : take l.seen l.self.seen ≡ take l.seen l.initial.self.seen;
  low : l.seen ≤ length l.self.seen;
  next : l.self.next ≡ l.initial.self.next;
}

abbrev pub decreases-loop-self : goal.decreases-loop-self
decreases-loop-self l = length l.self.seen
