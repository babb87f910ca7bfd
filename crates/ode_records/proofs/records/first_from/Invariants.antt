use Rattle.std.proofs.Common.{◌≡◌, ◌-◌, drop, length}
use Rattle.ode_keep.specs.Entries.{entries_from}
use Rattle.ode_records.specs.Kinds.{all_of}
use Rattle.ode_records.proofs.records.first_from.Given as goal

abbrev pub invariant-kinds : goal.invariant-kinds
invariant-kinds l = entries_from (all_of (drop l.kind l.kinds)) l.key ≡ entries_from (all_of l.kinds) l.key

abbrev pub decreases-kinds : goal.decreases-kinds
decreases-kinds l = length l.kinds - l.kind
