use Rattle.std.proofs.Common.{◌≡◌, ◌++◌, ◌∙◌, ap, subst, sym}
use Rattle.std.proofs.lemmas.Result.{err_from_is_err_and}
use Rattle.ode_keep.specs.Entries.{Entries, HasRisingKeys}
use Rattle.ode_dump.specs.Dumping.{all, lines_of}
use Rattle.ode_dump.specs.Order.{Lines}
use Rattle.ode_dump.proofs.Passed.{lines_rise, lines_stop, lines_through}
use Rattle.ode_dump.proofs.listing.read_lines.Goals as goal

pub returns-in_err-walk-clause-broken : goal.returns-in_err-walk-clause-broken
returns-in_err-walk-clause-broken g c =
    let p = err_from_is_err_and c.from_residual.result c.from_residual.ensures.1 in
    rw (p.1, p.2) (
    lines_stop (record { classes = c.args.classes; lines = c.new.result }) Lines (λ (entries : Entries). g.K.Keep.holds c.args.keeper.now (g.H.Host.view c.args.host.now) entries)
    c.new.result c.walk.new.pass c.in_err-walk.field-0.0 c.in_err-walk.ensures.meant
    )

pub returns-clause-lines : goal.returns-clause-lines
returns-clause-lines g c = λ entries holds.
    lines_through (record { classes = c.args.classes; lines = c.new.result }) (all entries) c.new.result c.walk.new.pass (c.in_ok-walk.ensures.meant entries holds)
    ∙ ap (λ (lines : Lines). lines ++ lines_of c.args.classes.now (all entries)) c.new.ensures

pub returns-clause-rise : goal.returns-clause-rise
returns-clause-rise g c = λ entries holds.
    let law = g.met.K.Keep.stands c.args.keeper.now c.args.host.now entries holds in
    let lines : c.walk.new.pass.lines ≡ lines_of c.args.classes.now (all entries) =
    lines_through (record { classes = c.args.classes; lines = c.new.result }) (all entries) c.new.result c.walk.new.pass (c.in_ok-walk.ensures.meant entries holds)
    ∙ ap (λ (lines : Lines). lines ++ lines_of c.args.classes.now (all entries)) c.new.ensures in
    subst HasRisingKeys (sym lines) (lines_rise c.args.classes.now entries (g.met.K.Keep.rising law.0 entries law.2))
