use Rattle.ode_declared_laws.proofs.SettlingChanges.{change_settles_heavy, change_settles_light, good_weighs}
use Rattle.ode_declared_laws.proofs.changes_settle.Goals as goal

pub returns-clause-light : goal.returns-clause-light
returns-clause-light c = change_settles_light

pub returns-clause-heavy : goal.returns-clause-heavy
returns-clause-heavy c = change_settles_heavy

pub returns-clause-weighs : goal.returns-clause-weighs
returns-clause-weighs c = good_weighs
