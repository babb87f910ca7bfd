use Rattle.std.proofs.Common.{length}
use Rattle.ode_query.proofs.instances.+count_combinations.Given as goal

abbrev pub decreases-count_combinations : goal.decreases-count_combinations
decreases-count_combinations l = length l.lists.now
