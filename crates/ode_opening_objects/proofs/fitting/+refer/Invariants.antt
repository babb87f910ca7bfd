use Rattle.std.proofs.Common.{length}
use Rattle.ode_opening_objects.proofs.fitting.+refer.Given as goal

abbrev pub decreases-refer : goal.decreases-refer
decreases-refer g l = length l.members.now
