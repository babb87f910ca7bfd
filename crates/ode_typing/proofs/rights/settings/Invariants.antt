use Rattle.std.proofs.Common.{◌≡◌, drop, []}
use Rattle.ode_types.specs.Checks.{in_turn}
use Rattle.ode_types.specs.Rights.{next_setting}
use Rattle.ode_typing.specs.Places.{scope_of}
use Rattle.ode_types.proofs.TurnLaws.{prepended}
use Rattle.ode_typing.proofs.rights.settings.Given as goal

abbrev pub invariant-loop-set : goal.invariant-loop-set
invariant-loop-set l = in_turn (next_setting (scope_of l.place l.locals) l.class) [] l.sets ≡ prepended l.checked (in_turn (next_setting (scope_of l.place l.locals) l.class) l.checked (drop l.set-index l.sets))
