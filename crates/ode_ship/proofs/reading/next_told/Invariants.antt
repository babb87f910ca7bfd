use Rattle.std.proofs.Common.{◌≡◌}
use Rattle.ode_keep.specs.Batches.{changes_of}
use Rattle.ode_ship.specs.Frames.{next_told}
use Rattle.ode_ship.proofs.reading.next_told.Given as goal

abbrev pub invariant-loop-change : goal.invariant-loop-change
invariant-loop-change l = next_told (changes_of l.change-iterator.rest.now) ≡ next_told l.batch
