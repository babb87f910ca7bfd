use Rattle.std.proofs.Common.{List}
use Rattle.std.proofs.lemmas.Result.{err_from_is_err_and}
use Rattle.ode_keep.specs.Entries.{Entries}
use Rattle.ode_value.specs.declared.key.Key.{Key}
use Rattle.ode_dump.specs.Dumping.{all}
use Rattle.ode_dump.proofs.Passed.{keys_are, keys_stop}
use Rattle.ode_dump.proofs.keys.read_keys.Goals as goal

pub returns-in_err-walk-clause-broken : goal.returns-in_err-walk-clause-broken
returns-in_err-walk-clause-broken g c =
    let p = err_from_is_err_and c.from_residual.result c.from_residual.ensures.1 in
    rw (p.1, p.2) (
    keys_stop (List Key) (λ (entries : Entries). g.K.Keep.holds c.args.keeper.now (g.H.Host.view c.args.host.now) entries) c.new.result c.walk.new.pass c.in_err-walk.field-0.0 c.in_err-walk.ensures.meant
    )

pub returns-clause-keys : goal.returns-clause-keys
returns-clause-keys g c = λ entries holds. keys_are c.new.result (all entries) c.walk.new.pass c.new.ensures (c.in_ok-walk.ensures.meant entries holds)
