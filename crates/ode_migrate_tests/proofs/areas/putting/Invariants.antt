use Rattle.ode_keep.specs.ShortValues.{HasShortValues}
use Rattle.ode_migrate_tests.proofs.areas.putting.Given as goal

abbrev pub invariant-loop-a : goal.invariant-loop-a
invariant-loop-a l = HasShortValues l.batch
