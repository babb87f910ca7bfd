use Rattle.std.proofs.Common.{◌≡◌, drop, take, length}
use Rattle.ode_types.specs.Bodies.{next_checked}
use Rattle.ode_types.specs.Checks.{in_turn}
use Rattle.ode_typing.specs.Places.{scope_of}
use Rattle.ode_types.proofs.TurnLaws.{prepended}
use Rattle.ode_typing.proofs.bodies.+statements.Given as goal

abbrev pub invariant-check_body-loop-s : goal.invariant-check_body-loop-s
invariant-check_body-loop-s l = record {
  checked : in_turn next_checked (scope_of l.place l.initial.locals) l.body ≡ prepended l.checked (in_turn next_checked (scope_of l.place l.locals) (drop l.s-index l.body));
  kept : take (length l.initial.locals.seen) l.locals.seen ≡ l.initial.locals.seen;
}
