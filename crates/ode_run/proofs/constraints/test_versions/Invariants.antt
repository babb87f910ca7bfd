use Rattle.std.proofs.Common.{◌≡◌, drop, map}
use Rattle.ode_laws.specs.Alike.{NumberTx}
use Rattle.ode_overlay_laws.specs.Standing.{version_as}
use Rattle.ode_run.proofs.constraints.test_versions.Given as goal
use Rattle.ode_states.specs.Machine.{checked}
use Rattle.ode_value.specs.Acts.{each}
use Rattle.ode_value.specs.Constraints.{tests_version}
use Rattle.ode_value.specs.Worlds.{Object}

abbrev pub invariant-loop-version : goal.invariant-loop-version
invariant-loop-version l = (o : Object) (y : NumberTx) → checked y.now.bones.classes ≡ l.program.classes → o.class ≡ l.class
    → each (tests_version o) (map version_as l.versions) y ≡ each (tests_version o) (map version_as (drop l.version-index l.versions)) y
