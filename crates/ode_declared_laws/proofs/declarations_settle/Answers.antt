use Rattle.ode_declared_laws.proofs.Settling.{settles_heavy, settles_light}
use Rattle.ode_declared_laws.proofs.declarations_settle.Goals as goal

pub returns-clause-light : goal.returns-clause-light
returns-clause-light c = settles_light

pub returns-clause-heavy : goal.returns-clause-heavy
returns-clause-heavy c = settles_heavy
