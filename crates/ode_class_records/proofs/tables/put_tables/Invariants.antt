use Rattle.std.proofs.Common.{◌≡◌, drop, take}
use Rattle.std.specs.List.{AllByRecursion, enumerate_from, flat_map}
use Rattle.ode_class_records.specs.ClassRows.{IsSized, pieces_at}
use Rattle.ode_class_records.specs.Puts.{with_rows}
use Rattle.ode_class_records.proofs.tables.put_tables.Given as goal

abbrev pub invariant-loop-place : goal.invariant-loop-place
invariant-loop-place l = record {
  rows : with_rows (flat_map (pieces_at l.class) (enumerate_from l.place (drop l.place l.tables))) l.batch
      ≡ with_rows (flat_map (pieces_at l.class) (enumerate_from 0 l.tables)) l.initial.batch;
  sized : AllByRecursion IsSized (take l.place l.tables);
}
