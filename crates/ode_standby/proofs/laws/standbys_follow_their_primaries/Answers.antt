use Rattle.ode_standby.proofs.ShippedLaws.{came, nothing}
use Rattle.ode_standby.proofs.laws.standbys_follow_their_primaries.Goals as goal

pub returns-clause-takes : goal.returns-clause-takes
returns-clause-takes call = λ most j entries fs places bytes rest c d shipped behind on front taken. came most entries fs shipped j places bytes c behind on front d rest taken

pub returns-clause-goes_on : goal.returns-clause-goes_on
returns-clause-goes_on call = λ most j entries fs places bytes c d error shipped behind on front stopped. nothing most entries fs shipped j places bytes c behind on front d error stopped
