use Rattle.ode_version_laws.proofs.KeepLaws.{activate_keeps, create_keeps, deactivate_keeps, derive_keeps, drop_keeps, put_keeps, remove_keeps, touch_keeps, write_keeps}
use Rattle.ode_version_laws.proofs.rewinding.calls_remember_firsts.Goals as goal

pub returns-clause-write : goal.returns-clause-write
returns-clause-write c = write_keeps

pub returns-clause-derive : goal.returns-clause-derive
returns-clause-derive c = derive_keeps

pub returns-clause-drop : goal.returns-clause-drop
returns-clause-drop c = drop_keeps

pub returns-clause-touch : goal.returns-clause-touch
returns-clause-touch c = touch_keeps

pub returns-clause-create : goal.returns-clause-create
returns-clause-create c = create_keeps

pub returns-clause-remove : goal.returns-clause-remove
returns-clause-remove c = remove_keeps

pub returns-clause-activate : goal.returns-clause-activate
returns-clause-activate c = activate_keeps

pub returns-clause-deactivate : goal.returns-clause-deactivate
returns-clause-deactivate c = deactivate_keeps

pub returns-clause-put : goal.returns-clause-put
returns-clause-put c = put_keeps
