use Rattle.ode_formed_laws.proofs.ActiveLaws.{activate_stays, deactivate_stays, put_stays}
use Rattle.ode_formed_laws.proofs.FormedLaws.{collect_stays}
use Rattle.ode_formed_laws.proofs.ObjectLaws.{create_stays, remove_stays, touch_stays}
use Rattle.ode_formed_laws.proofs.changes_stay_formed.Goals as goal

pub returns-clause-touch : goal.returns-clause-touch
returns-clause-touch c = touch_stays

pub returns-clause-make : goal.returns-clause-make
returns-clause-make c = create_stays

pub returns-clause-remove : goal.returns-clause-remove
returns-clause-remove c = remove_stays

pub returns-clause-activate : goal.returns-clause-activate
returns-clause-activate c = λ classes base x id class trigger args new formed read. activate_stays classes base x id new formed read class trigger args

pub returns-clause-deactivate : goal.returns-clause-deactivate
returns-clause-deactivate c = λ classes base x id number new formed read. deactivate_stays classes base x id new formed read number

pub returns-clause-put : goal.returns-clause-put
returns-clause-put c = λ classes base x id acts new formed read. put_stays classes base x id new formed read acts

pub returns-clause-collect : goal.returns-clause-collect
returns-clause-collect c = collect_stays
