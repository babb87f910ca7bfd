use Rattle.ode_point_laws.proofs.PointLaws.{all_arise, whole_arise}
use Rattle.ode_point_laws.proofs.points_follow.Goals as goal

pub returns-clause-both : goal.returns-clause-both
returns-clause-both c = all_arise

pub returns-clause-whole : goal.returns-clause-whole
returns-clause-whole c = whole_arise
