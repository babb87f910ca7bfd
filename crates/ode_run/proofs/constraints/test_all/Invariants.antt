use Rattle.std.proofs.Common.{◌≡◌, length}
use Rattle.ode_laws.specs.Alike.{NumberTx}
use Rattle.ode_run.proofs.constraints.test_all.Given as goal
use Rattle.ode_value.specs.Acts.{each}
use Rattle.ode_value.specs.Constraints.{tests}
use Rattle.ode_value.specs.Versions.{Version}

-- the tests of those that are left are those of all
abbrev pub invariant-loop-constraint : goal.invariant-loop-constraint
invariant-loop-constraint l = (v : Version) (y : NumberTx) → v.fields ≡ l.fields → each (tests v) l.initial.constraints y ≡ each (tests v) l.constraints y

abbrev pub decreases-loop-constraint : goal.decreases-loop-constraint
decreases-loop-constraint l = length l.constraints
