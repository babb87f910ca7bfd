use Rattle.std.proofs.Common.{ap, subst, sym, ◌∙◌}
use Rattle.ode_keep.specs.Entries.{HasRisingKeys}
use Rattle.ode_dump.specs.Dumping.{dump_text}
use Rattle.ode_dump.specs.Order.{in_order}
use Rattle.ode_dump.proofs.dump.dump_text.Goals as goal

pub returns-clause-text : goal.returns-clause-text
unfolding dump_text
returns-clause-text g c = λ entries holds.
    c.in_ok-text.ensures (subst HasRisingKeys (sym c.as_slice.ensures) (c.in_ok-lines.ensures.rise entries holds))
    ∙ ap in_order (c.as_slice.ensures ∙ c.in_ok-lines.ensures.lines entries holds)
