use Rattle.std.proofs.Common.{◌≡◌, ◌≤◌, ◌+◌, length}
use Rattle.std.specs.List.{AllByRecursion}
use Rattle.ode_keep.proofs.Lengths.{IsShortChange}
use Rattle.ode_keep.specs.Batches.{changes_of}
use Rattle.ode_keep.specs.Entries.{Entries, applied, value_under}
use Rattle.ode_keep.specs.ShortValues.{HasShortValues}
use Rattle.ode_value.specs.declared.key.Key.{Key}
use Rattle.ode_declare.proofs.batches.put_all.Given as goal

abbrev pub invariant-loop-change : goal.invariant-loop-change
invariant-loop-change l = record {
  both : (base : Entries) (q : Key) → value_under (applied (changes_of l.change-iterator.rest.now) (applied l.batch base)) q ≡ value_under (applied l.more (applied l.fn.batch base)) q;
  short : HasShortValues l.fn.batch → HasShortValues l.more → HasShortValues l.batch;
  left : HasShortValues l.more → AllByRecursion IsShortChange (changes_of l.change-iterator.rest.now);
  few : length l.batch + length (changes_of l.change-iterator.rest.now) ≤ length l.fn.batch + length l.more;
}
