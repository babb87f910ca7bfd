use Rattle.std.proofs.Common.{◌≡◌, drop, map}
use Rattle.std.specs.List.{enumerate_from}
use Rattle.ode_class_records.specs.ClassRows.{head_at}
use Rattle.ode_class_records.specs.Puts.{with_rows}
use Rattle.ode_class_records.proofs.tables.put_table_heads.Given as goal

abbrev pub invariant-loop-place : goal.invariant-loop-place
invariant-loop-place l =
    with_rows (map (head_at l.class) (enumerate_from l.place (drop l.place l.tables))) l.batch ≡ with_rows (map (head_at l.class) (enumerate_from 0 l.tables)) l.initial.batch
