use Rattle.std.proofs.Common.{length}
use Rattle.ode_opening_objects.proofs.fitting.+match_sorts.Given as goal

abbrev pub decreases-match_sorts : goal.decreases-match_sorts
decreases-match_sorts g l = length l.members.now
