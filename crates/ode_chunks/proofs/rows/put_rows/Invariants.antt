use Rattle.std.proofs.Common.{◌≡◌, ◌++◌, drop}
use Rattle.std.specs.List.{AllByRecursion}
use Rattle.ode_value.specs.Records.{snapshot}
use Rattle.ode_keep.specs.Snapshots.{FitsRow}
use Rattle.ode_chunks.proofs.rows.put_rows.Given as goal

abbrev pub invariant-loop-key : goal.invariant-loop-key
invariant-loop-key l = AllByRecursion FitsRow l.rows → AllByRecursion FitsRow (drop l.key-index l.rows) × (l.bytes.items ++ snapshot (drop l.key-index l.rows) ≡ l.initial.bytes.items ++ snapshot l.rows)
