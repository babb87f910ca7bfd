use Rattle.std.proofs.Common.{◌≡◌, drop}
use Rattle.std.specs.List.{find}
use Rattle.ode_objects.specs.Objects.{has_number}
use Rattle.ode_objects.proofs.object.active_numbered.Given as goal

abbrev pub invariant-loop-active : goal.invariant-loop-active
invariant-loop-active l = find (has_number l.number) (drop l.active-index l.actives) ≡ find (has_number l.number) l.actives
