use Rattle.std.proofs.Common.{◌≡◌}
use Rattle.ode_keep.specs.Batches.{changes_of}
use Rattle.ode_keep.specs.Entries.{applied}
use Rattle.ode_areas.specs.Puts.{removals}
use Rattle.ode_areas.proofs.changing.remove_all.Given as goal

abbrev pub invariant-loop-change : goal.invariant-loop-change
invariant-loop-change l = applied (removals (changes_of l.change-iterator.rest.now)) l.records ≡ applied (removals l.batch) l.initial.records
