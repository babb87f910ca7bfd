use Rattle.std.proofs.Common.{length}
use Rattle.ode_objects.proofs.weights.+values_length.Given as goal

abbrev pub decreases-values_length : goal.decreases-values_length
decreases-values_length l = length l.values.now
