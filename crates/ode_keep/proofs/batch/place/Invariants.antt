use Rattle.std.proofs.Common.{◌≡◌, ◌≤◌, true, drop, length}
use Rattle.std.specs.List.{AllByRecursion}
use Rattle.std.specs.Map.{keys_of}
use Rattle.std.specs.Ordering.{is_le}
use Rattle.ode_value.specs.Keys.{key_cmp}
use Rattle.ode_keep.specs.Batches.{changes_of}
use Rattle.ode_keep.proofs.batch.place.Given as goal

abbrev pub invariant-above : goal.invariant-above
invariant-above l = record {
  within : l.at ≤ length l.changes;
  from : AllByRecursion (λ y. is_le (key_cmp l.key y) ≡ true) (keys_of (drop l.at (changes_of l.changes)));
}

abbrev pub decreases-above : goal.decreases-above
decreases-above l = l.at
