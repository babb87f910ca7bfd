use Rattle.std.proofs.Common.{◌≡◌, ◌++◌, drop}
use Rattle.std.specs.List.{AllByRecursion}
use Rattle.ode_value.specs.Records.{snapshot}
use Rattle.ode_keep.specs.Snapshots.{FitsRow}
use Rattle.ode_records.specs.Kinds.{all_of}
use Rattle.ode_records.proofs.records.put_kinds.Given as goal

abbrev pub invariant-loop-chunks : goal.invariant-loop-chunks
invariant-loop-chunks l = AllByRecursion FitsRow (all_of l.kinds)
    → AllByRecursion FitsRow (all_of (drop l.chunks-index l.kinds)) × (l.bytes.items ++ snapshot (all_of (drop l.chunks-index l.kinds)) ≡ l.initial.bytes.items ++ snapshot (all_of l.kinds))
