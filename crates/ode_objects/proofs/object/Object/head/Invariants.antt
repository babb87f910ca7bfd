use Rattle.std.proofs.Common.{◌≡◌, map, take}
use Rattle.ode_objects.specs.Objects.{listed}
use Rattle.ode_objects.proofs.object.Object.head.Given as goal

abbrev pub invariant-loop-version : goal.invariant-loop-version
invariant-loop-version l = l.versions ≡ map listed (take l.version-index l.self.versions)
