use Rattle.std.proofs.Common.{◌≡◌, drop}
use Rattle.std.specs.List.{find}
use Rattle.ode_objects.specs.Objects.{is_numbered}
use Rattle.ode_objects.proofs.object.version_numbered.Given as goal

abbrev pub invariant-loop-version : goal.invariant-loop-version
invariant-loop-version l = find (is_numbered l.number) (drop l.version-index l.versions) ≡ find (is_numbered l.number) l.versions
