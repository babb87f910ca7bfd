use Rattle.std.proofs.Common.{◌<◌, ◌∙◌, ap, length, subst, ℕ}
use Rattle.ode_query.proofs.TextLaws.{too_long}
use Rattle.ode_query.proofs.text.fits.Goals as goal
use Rattle.ode_query.specs.Texts.{row_line}
use Rattle.ode_query.specs.declared.row.Row.{Row}

pub returns-then-length-left : goal.returns-then-length-left
returns-then-length-left c =
    let own = c.in_ok-length.ensures ∙ ap (λ (row : Row). length (row_line row)) c.row-item.is in
    too_long c.args.rows.now c.loop-row.row-index c.row-item.result c.loop-row.left c.loop-row-test.true c.loop-row.invariant
    (subst (λ (n : ℕ). c.loop-row.left < n) own c.if-length-left.true)
