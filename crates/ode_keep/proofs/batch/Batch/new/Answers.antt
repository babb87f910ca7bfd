use Rattle.ode_keep.proofs.Placing.{none_rising}
use Rattle.ode_keep.proofs.batch.Batch.new.Goals as goal

pub invariant_of-result : goal.invariant_of-result
invariant_of-result c = none_rising c.new.result c.new.ensures
