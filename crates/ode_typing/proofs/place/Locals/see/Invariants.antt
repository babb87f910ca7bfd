use Rattle.std.proofs.Common.{◌≡◌, ◌+◌, ◌++◌, take}
use Rattle.std.specs.List.{enumerate_from}
use Rattle.ode_typing.proofs.place.Locals.see.Given as goal

abbrev pub invariant-loop-param : goal.invariant-loop-param
invariant-loop-param l = record {
  seen : l.self.seen ≡ l.initial.self.seen ++ enumerate_from l.initial.self.next (take l.param-index l.param-items);
  next : l.self.next ≡ l.initial.self.next;
  slot : l.slot ≡ l.initial.self.next + l.param-index;
}
