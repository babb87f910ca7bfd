use Rattle.std.proofs.Common.{◌≡◌, drop}
use Rattle.ode_types.specs.Checks.{in_turn}
use Rattle.ode_types.specs.Rights.{argument}
use Rattle.ode_typing.specs.Places.{scope_of}
use Rattle.ode_types.proofs.TurnLaws.{prepended}
use Rattle.ode_typing.proofs.rights.arguments.Given as goal

abbrev pub invariant-loop-i : goal.invariant-loop-i
invariant-loop-i l = in_turn (argument (scope_of l.place l.locals)) l.params l.args ≡ prepended l.checked (in_turn (argument (scope_of l.place l.locals)) (drop l.i l.params) (drop l.i l.args))
