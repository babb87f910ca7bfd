use Rattle.ode_key_laws.proofs.KeepLaws.{activate_holds, begun_holds, collect_holds, create_holds, deactivate_holds, derive_holds, drop_holds, put_holds, remove_holds, touch_holds, write_holds}
use Rattle.ode_key_laws.proofs.RewoundLaws.{rewind_holds}
use Rattle.ode_key_laws.proofs.calls_keep_keys.Goals as goal

pub returns-clause-begun : goal.returns-clause-begun
returns-clause-begun c = begun_holds

pub returns-clause-write : goal.returns-clause-write
returns-clause-write c = λ classes base x y r slot value stands holds read. write_holds classes base x y r stands holds read slot value

pub returns-clause-derive : goal.returns-clause-derive
returns-clause-derive c = derive_holds

pub returns-clause-drop : goal.returns-clause-drop
returns-clause-drop c = drop_holds

pub returns-clause-touch : goal.returns-clause-touch
returns-clause-touch c = touch_holds

pub returns-clause-create : goal.returns-clause-create
returns-clause-create c = create_holds

pub returns-clause-remove : goal.returns-clause-remove
returns-clause-remove c = remove_holds

pub returns-clause-activate : goal.returns-clause-activate
returns-clause-activate c = λ classes base x y id class trigger args stands holds read. activate_holds classes base x y id stands holds read class trigger args

pub returns-clause-deactivate : goal.returns-clause-deactivate
returns-clause-deactivate c = λ classes base x y id number stands holds read. deactivate_holds classes base x y id stands holds read number

pub returns-clause-put : goal.returns-clause-put
returns-clause-put c = λ classes base x y id rs stands holds read. put_holds classes base x y id stands holds read rs

pub returns-clause-collect : goal.returns-clause-collect
returns-clause-collect c = collect_holds

pub returns-clause-rewind : goal.returns-clause-rewind
returns-clause-rewind c = rewind_holds
