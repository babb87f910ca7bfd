use Rattle.std.proofs.Common.{◌≡◌, drop}
use Rattle.ode_types.specs.Declaring.{same_params}
use Rattle.ode_checker.proofs.declaring.same_params.Given as goal

abbrev pub invariant-loop-i : goal.invariant-loop-i
invariant-loop-i l = same_params l.params l.others ≡ same_params (drop l.i l.params) (drop l.i l.others)
