use Rattle.std.proofs.Common.{ap, ◌∙◌, arith, take}
use Rattle.ode_value.specs.Same.{same_expr}
use Rattle.ode_value.specs.Symbols.{distinct}
use Rattle.ode_value.proofs.Sames.{expr-same}
use Rattle.ode_symbols.specs.Alphabets.{with_new}
use Rattle.ode_symbols.proofs.DistinctLaws.{list-more}
use Rattle.ode_symbols.proofs.rows.each_once.Goals as goal

pub loop-mask-preserved : goal.loop-mask-preserved
loop-mask-preserved c =
    let i = c.loop-mask.mask-index in
    let mask = c.mask-item.result in
    c.in_ok-add_mask.ensures
    ∙ ap (λ masks. with_new same_expr masks mask) c.loop-mask.invariant
    ∙ ap (with_new same_expr (distinct same_expr (take i c.args.all.now))) c.mask-item.is
    ∙ list-more same_expr expr-same c.args.all.now i mask (omega arith)
