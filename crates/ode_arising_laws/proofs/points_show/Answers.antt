use Rattle.ode_arising_laws.proofs.ShownLaws.{both_show, none_shows, whole_show}
use Rattle.ode_arising_laws.proofs.points_show.Goals as goal

pub returns-clause-both : goal.returns-clause-both
returns-clause-both c = both_show

pub returns-clause-whole : goal.returns-clause-whole
returns-clause-whole c = whole_show

pub returns-clause-none : goal.returns-clause-none
returns-clause-none c = none_shows
