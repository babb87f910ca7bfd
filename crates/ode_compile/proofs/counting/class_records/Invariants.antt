use Rattle.std.proofs.Common.{◌≡◌, ◌+◌, drop, length}
use Rattle.std.specs.List.{sum_by}
use Rattle.ode_value.specs.Lengths.{class_records, table_records}
use Rattle.ode_compile.specs.Compiling.{counted_sizes}
use Rattle.ode_compile.proofs.counting.class_records.Given as goal

abbrev pub invariant-loop-place : goal.invariant-loop-place
invariant-loop-place l =
    l.count + sum_by table_records (counted_sizes (drop l.place l.counts) (drop l.place l.tables)) ≡ class_records (length l.text) (counted_sizes l.counts l.tables)
