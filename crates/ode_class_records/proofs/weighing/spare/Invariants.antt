use Rattle.std.proofs.Common.{◌≡◌, ◌≤◌, ◌*◌, length, min, take}
use Rattle.ode_class_records.specs.Weighing.{spare_beside}
use Rattle.ode_class_records.proofs.weighing.spare.Given as goal

abbrev pub invariant-loop-place : goal.invariant-loop-place
invariant-loop-place l = record {
  spare : l.spare ≡ spare_beside l.counts (take l.place l.stored);
  small : l.spare ≤ min l.place (length l.counts) * 134217727;
}
