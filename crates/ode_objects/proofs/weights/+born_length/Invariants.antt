use Rattle.std.proofs.Common.{length}
use Rattle.ode_objects.proofs.weights.+born_length.Given as goal

abbrev pub decreases-born_length : goal.decreases-born_length
decreases-born_length l = length l.fields.now
