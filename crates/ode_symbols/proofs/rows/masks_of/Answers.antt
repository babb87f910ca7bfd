use Rattle.std.proofs.Common.{ap, ◌∙◌, arith, take}
use Rattle.std.specs.Prelude.{filter_map}
use Rattle.ode_value.specs.Marks.{Leaf}
use Rattle.ode_value.specs.Same.{same_expr}
use Rattle.ode_value.specs.Symbols.{distinct, mask_of}
use Rattle.ode_value.proofs.Sames.{expr-same}
use Rattle.ode_symbols.specs.Alphabets.{with_any}
use Rattle.ode_symbols.proofs.DistinctLaws.{filter-more}
use Rattle.ode_symbols.proofs.rows.masks_of.Goals as goal

pub loop-leaf-preserved : goal.loop-leaf-preserved
loop-leaf-preserved c =
    let i = c.loop-leaf.leaf-index in
    let leaf = c.leaf-item.result in
    let kind = c.args.kind.now in
    c.in_ok-add_mask_of.ensures
    ∙ ap (λ masks. with_any same_expr masks (mask_of kind leaf)) c.loop-leaf.invariant
    ∙ ap (λ (x : Leaf). with_any same_expr (distinct same_expr (filter_map (mask_of kind) (take i c.args.leaves.now))) (mask_of kind x)) c.leaf-item.is
    ∙ filter-more same_expr expr-same (mask_of kind) c.args.leaves.now i leaf (omega arith)
