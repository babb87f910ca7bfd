use Rattle.std.proofs.Common.{length}
use Rattle.ode_index.proofs.order.+values_cmp.Given as goal

abbrev pub decreases-values_cmp : goal.decreases-values_cmp
decreases-values_cmp l = length l.vs.now
