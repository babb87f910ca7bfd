use Rattle.ode_keep.specs.ShortValues.{HasShortValues}
use Rattle.ode_record_tests.proofs.database.putting.Given as goal

abbrev pub invariant-loop-row : goal.invariant-loop-row
invariant-loop-row l = HasShortValues l.batch
