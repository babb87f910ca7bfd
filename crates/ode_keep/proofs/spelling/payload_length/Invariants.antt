use Rattle.std.proofs.Common.{◌≡◌, ◌≤◌, ◌+◌, ◌*◌, length}
use Rattle.std.specs.List.{AllByRecursion, flat_map}
use Rattle.ode_keep.specs.Batches.{changes_of}
use Rattle.ode_keep.specs.Payloads.{change_bytes, payload_of}
use Rattle.ode_keep.proofs.Lengths.{IsShortChange}
use Rattle.ode_keep.proofs.spelling.payload_length.Given as goal
use Rattle.ode_keep.specs.declared.limits.TheConstants.{MAX_CHANGE_LEN}
use Rattle.ode_keep.specs.declared.spelling.TheConstants.{COUNT_LEN}

abbrev pub invariant-loop-change : goal.invariant-loop-change
invariant-loop-change l = record {
  exact : l.length + length (flat_map change_bytes (changes_of l.change-iterator.rest.now)) ≡ length (payload_of l.batch);
  small : l.length + MAX_CHANGE_LEN * length (changes_of l.change-iterator.rest.now) ≤ COUNT_LEN + MAX_CHANGE_LEN * length l.batch;
  short : AllByRecursion IsShortChange (changes_of l.change-iterator.rest.now);
}
