use Rattle.std.proofs.Common.{◌≡◌, ◌++◌, take}
use Rattle.ode_objects.specs.Objects.{version_keys}
use Rattle.ode_objects.proofs.keys.push_versions.Given as goal

abbrev pub invariant-loop-version : goal.invariant-loop-version
invariant-loop-version l = l.keys ≡ l.initial.keys ++ version_keys l.id (take l.version-index l.versions)
