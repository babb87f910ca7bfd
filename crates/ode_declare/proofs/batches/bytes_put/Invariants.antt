use Rattle.std.proofs.Common.{◌≡◌, ◌≤◌, ◌+◌, ◌-◌, ◌^◌, min}
use Rattle.ode_keep.specs.Batches.{changes_of}
use Rattle.ode_keep.specs.Growth.{put_bytes}
use Rattle.ode_declare.proofs.batches.bytes_put.Given as goal

abbrev pub invariant-loop-change : goal.invariant-loop-change
invariant-loop-change l = record {
  sum : min (l.bytes + put_bytes (changes_of l.change-iterator.rest.now)) (2 ^ 64 - 1) ≡ min (put_bytes l.batch) (2 ^ 64 - 1);
  small : l.bytes ≤ 2 ^ 64 - 1;
}
