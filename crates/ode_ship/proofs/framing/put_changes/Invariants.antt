use Rattle.std.proofs.Common.{◌≡◌, ◌++◌}
use Rattle.std.specs.List.{AllByRecursion, flat_map}
use Rattle.ode_keep.specs.Batches.{changes_of}
use Rattle.ode_keep.specs.Payloads.{FitsChange, change_bytes}
use Rattle.ode_keep.proofs.Lengths.{IsShortChange}
use Rattle.ode_ship.proofs.framing.put_changes.Given as goal

abbrev pub invariant-loop-change : goal.invariant-loop-change
invariant-loop-change l = record {
  so_far : l.to.items ++ flat_map change_bytes (changes_of l.change-iterator.rest.now) ≡ l.initial.to.items ++ flat_map change_bytes l.batch;
  short : AllByRecursion IsShortChange (changes_of l.change-iterator.rest.now);
  fits : AllByRecursion FitsChange (changes_of l.change-iterator.rest.now) → AllByRecursion FitsChange l.batch;
}
