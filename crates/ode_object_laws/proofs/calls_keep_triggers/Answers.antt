use Rattle.ode_object_laws.proofs.TriggerLaws.{Having, still_have, triggers_kept}
use Rattle.ode_object_laws.proofs.calls_keep_triggers.Goals as goal
use Rattle.ode_overlay.specs.Changing.{activate, create, deactivate, derive, drop_version, put_acts, remove, touch, write}
use Rattle.ode_version_laws.proofs.EachLaws.{activate_each, create_each, deactivate_each, derive_each, drop_each, put_each, remove_each, touch_each, write_each}

pub returns-clause-write : goal.returns-clause-write
returns-clause-write c = λ known classes base x y r slot value stands have read. still_have known y (write classes base r slot value x) (write_each (Having known) (triggers_kept known) classes base x y r slot value stands have read)

pub returns-clause-derive : goal.returns-clause-derive
returns-clause-derive c = λ known classes base x y r stands have read. still_have known y (derive classes base r x) (derive_each (Having known) (triggers_kept known) classes base x y r stands have read)

pub returns-clause-drop : goal.returns-clause-drop
returns-clause-drop c = λ known classes base x y r stands have read. still_have known y (drop_version classes base r x) (drop_each (Having known) (triggers_kept known) classes base x y r stands have read)

pub returns-clause-touch : goal.returns-clause-touch
returns-clause-touch c = λ known classes base x y id stands have read. still_have known y (touch classes base id x) (touch_each (Having known) (triggers_kept known) classes base x y id stands have read)

pub returns-clause-create : goal.returns-clause-create
returns-clause-create c = λ known class fields x y stands have. still_have known y (create class fields x) (create_each (Having known) (triggers_kept known) class fields x y stands have)

pub returns-clause-remove : goal.returns-clause-remove
returns-clause-remove c = λ known classes base x y id stands have read. still_have known y (remove classes base id x) (remove_each (Having known) (triggers_kept known) classes base x y id stands have read)

pub returns-clause-activate : goal.returns-clause-activate
returns-clause-activate c = λ known classes base x y id class trigger args stands have read takes. still_have known y (activate classes base id class trigger args x) (activate_each (Having known) (triggers_kept known) classes base x y id class trigger args stands have read takes)

pub returns-clause-deactivate : goal.returns-clause-deactivate
returns-clause-deactivate c = λ known classes base x y id number stands have read. still_have known y (deactivate classes base id number x) (deactivate_each (Having known) (triggers_kept known) classes base x y id number stands have read)

pub returns-clause-put : goal.returns-clause-put
returns-clause-put c = λ known classes base x y id rs stands have read. still_have known y (put_acts classes base id rs x) (put_each (Having known) (triggers_kept known) classes base x y id rs stands have read)
