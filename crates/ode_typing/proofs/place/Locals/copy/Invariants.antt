use Rattle.std.proofs.Common.{◌≡◌, take}
use Rattle.ode_typing.proofs.place.Locals.copy.Given as goal

abbrev pub invariant-loop-local : goal.invariant-loop-local
invariant-loop-local l = l.seen ≡ take l.local-index l.local-items
