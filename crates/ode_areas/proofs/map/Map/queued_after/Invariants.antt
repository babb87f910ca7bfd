use Rattle.std.proofs.Common.{◌≡◌, ◌+◌}
use Rattle.ode_keep.specs.Batches.{changes_of}
use Rattle.ode_keep.specs.Growth.{put_of_kind, taken_of_kind}
use Rattle.ode_value.specs.Keys.{entry_kind}
use Rattle.ode_areas.proofs.map.Map.queued_after.Given as goal

abbrev pub invariant-loop-change : goal.invariant-loop-change
invariant-loop-change l = record {
  put : l.put + put_of_kind entry_kind (changes_of l.change-iterator.rest.now) ≡ put_of_kind entry_kind l.batch;
  taken : l.taken + taken_of_kind entry_kind (changes_of l.change-iterator.rest.now) l.self ≡ taken_of_kind entry_kind l.batch l.self;
}
