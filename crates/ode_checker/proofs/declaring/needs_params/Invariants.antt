use Rattle.std.proofs.Common.{◌≡◌, [], drop, take}
use Rattle.ode_types.specs.Checks.{through}
use Rattle.ode_types.specs.Declaring.{next_param}
use Rattle.ode_checker.proofs.declaring.needs_params.Given as goal

abbrev pub invariant-loop-i : goal.invariant-loop-i
invariant-loop-i l = through (next_param l.known l.decl) [] l.params ≡ through (next_param l.known l.decl) (take l.i l.params) (drop l.i l.params)
