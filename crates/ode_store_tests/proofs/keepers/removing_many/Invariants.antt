use Rattle.ode_keep.specs.ShortValues.{HasShortValues}
use Rattle.ode_store_tests.proofs.keepers.removing_many.Given as goal

abbrev pub invariant-loop-a : goal.invariant-loop-a
invariant-loop-a l = HasShortValues l.batch
