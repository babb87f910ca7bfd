use Rattle.ode_laws.specs.Numbered.{HasNumbers}
use Rattle.ode_object_laws.proofs.NumberLaws.{numbers_kept}
use Rattle.ode_object_laws.proofs.calls_keep_numbers.Goals as goal
use Rattle.ode_version_laws.proofs.EachLaws.{activate_each, create_each, deactivate_each, derive_each, drop_each, put_each, remove_each, touch_each, write_each}

pub returns-clause-write : goal.returns-clause-write
returns-clause-write c = write_each HasNumbers numbers_kept

pub returns-clause-derive : goal.returns-clause-derive
returns-clause-derive c = derive_each HasNumbers numbers_kept

pub returns-clause-drop : goal.returns-clause-drop
returns-clause-drop c = drop_each HasNumbers numbers_kept

pub returns-clause-touch : goal.returns-clause-touch
returns-clause-touch c = touch_each HasNumbers numbers_kept

pub returns-clause-create : goal.returns-clause-create
returns-clause-create c = create_each HasNumbers numbers_kept

pub returns-clause-remove : goal.returns-clause-remove
returns-clause-remove c = remove_each HasNumbers numbers_kept

pub returns-clause-activate : goal.returns-clause-activate
returns-clause-activate c = λ classes base x y id class trigger args stands have read. activate_each HasNumbers numbers_kept classes base x y id class trigger args stands have read (λ o is. tt)

pub returns-clause-deactivate : goal.returns-clause-deactivate
returns-clause-deactivate c = deactivate_each HasNumbers numbers_kept

pub returns-clause-put : goal.returns-clause-put
returns-clause-put c = put_each HasNumbers numbers_kept
