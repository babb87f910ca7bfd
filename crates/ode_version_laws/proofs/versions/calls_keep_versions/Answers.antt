use Rattle.ode_version_laws.proofs.HaveLaws.{activate_has, create_has, deactivate_has, derive_has, drop_has, put_has, remove_has, touch_has, write_has}
use Rattle.ode_version_laws.proofs.versions.calls_keep_versions.Goals as goal

pub returns-clause-write : goal.returns-clause-write
returns-clause-write c = write_has

pub returns-clause-derive : goal.returns-clause-derive
returns-clause-derive c = derive_has

pub returns-clause-drop : goal.returns-clause-drop
returns-clause-drop c = drop_has

pub returns-clause-touch : goal.returns-clause-touch
returns-clause-touch c = touch_has

pub returns-clause-create : goal.returns-clause-create
returns-clause-create c = create_has

pub returns-clause-remove : goal.returns-clause-remove
returns-clause-remove c = remove_has

pub returns-clause-activate : goal.returns-clause-activate
returns-clause-activate c = activate_has

pub returns-clause-deactivate : goal.returns-clause-deactivate
returns-clause-deactivate c = deactivate_has

pub returns-clause-put : goal.returns-clause-put
returns-clause-put c = put_has
