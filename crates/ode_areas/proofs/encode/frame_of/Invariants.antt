use Rattle.std.proofs.Common.{◌≡◌, ◌++◌, length}
use Rattle.std.specs.List.{AllByRecursion, flat_map}
use Rattle.ode_keep.specs.Batches.{changes_of}
use Rattle.ode_keep.specs.Payloads.{FitsChange, change_bytes, payload_of}
use Rattle.ode_keep.proofs.Lengths.{IsShortChange}
use Rattle.ode_areas.proofs.encode.frame_of.Given as goal

abbrev pub invariant-loop-change : goal.invariant-loop-change
invariant-loop-change l = record {
  so_far : l.frame.payload ++ flat_map change_bytes (changes_of l.change-iterator.rest.now) ≡ payload_of l.batch;
  spare : l.frame.spare ≡ length (flat_map change_bytes (changes_of l.change-iterator.rest.now));
  short : AllByRecursion IsShortChange (changes_of l.change-iterator.rest.now);
  fits : AllByRecursion FitsChange (changes_of l.change-iterator.rest.now) → AllByRecursion FitsChange l.batch;
}
