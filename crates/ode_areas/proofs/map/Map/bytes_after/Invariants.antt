use Rattle.std.proofs.Common.{◌≡◌, ◌+◌}
use Rattle.std.specs.List.{AllByRecursion}
use Rattle.ode_keep.specs.Batches.{changes_of}
use Rattle.ode_keep.specs.Growth.{put_bytes, taken_bytes}
use Rattle.ode_keep.proofs.Lengths.{IsShortChange}
use Rattle.ode_areas.proofs.map.Map.bytes_after.Given as goal

abbrev pub invariant-loop-change : goal.invariant-loop-change
invariant-loop-change l = record {
  put : l.put + put_bytes (changes_of l.change-iterator.rest.now) ≡ put_bytes l.batch;
  taken : l.taken + taken_bytes (changes_of l.change-iterator.rest.now) l.self ≡ taken_bytes l.batch l.self;
  short : AllByRecursion IsShortChange (changes_of l.change-iterator.rest.now);
}
