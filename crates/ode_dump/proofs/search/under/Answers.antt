use Rattle.std.proofs.Common.{sym, ap, subst, ◌∙◌, not}
use Rattle.std.specs.List.{filter}
use Rattle.ode_keep.proofs.Maps.{rising_some}
use Rattle.ode_keep.specs.Entries.{HasRisingKeys}
use Rattle.ode_value.specs.Keys.{key_cmp}
use Rattle.ode_dump.specs.Order.{Lines}
use Rattle.ode_dump.specs.Searching.{is_before, is_up_to}
use Rattle.ode_dump.proofs.Searching.{both_under}
use Rattle.ode_dump.proofs.search.under.Goals as goal

pub returns : goal.returns
returns c = λ rising.
    let front = c.up_to.ensures rising in
    let still = subst HasRisingKeys (sym front) (rising_some key_cmp (λ l. is_up_to c.args.kind c.args.a l.0) c.args.lines.now rising) in
    c.from_on.ensures still ∙ ap (λ (lines : Lines). filter (λ l. not (is_before c.args.kind c.args.a l.0)) lines) front
    ∙ both_under c.args.kind c.args.a c.args.lines.now
