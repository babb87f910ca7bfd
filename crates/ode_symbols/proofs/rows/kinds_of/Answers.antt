use Rattle.std.proofs.Common.{ap, ◌∙◌, arith}
use Rattle.ode_value.specs.Marks.{Leaf}
use Rattle.ode_value.specs.Same.{same_kind}
use Rattle.ode_value.proofs.Sames.{kind-same}
use Rattle.ode_symbols.specs.Alphabets.{with_new}
use Rattle.ode_symbols.proofs.DistinctLaws.{map-more}
use Rattle.ode_value.specs.Symbols.{distinct}
use Rattle.std.proofs.Common.{map, take}
use Rattle.ode_symbols.proofs.rows.kinds_of.Goals as goal

pub loop-leaf-preserved : goal.loop-leaf-preserved
loop-leaf-preserved c =
    let i = c.loop-leaf.leaf-index in
    let leaf = c.leaf-item.result in
    c.in_ok-add_kind.ensures
    ∙ ap (λ kinds. with_new same_kind kinds leaf.0) c.loop-leaf.invariant
    ∙ ap (λ (x : Leaf). with_new same_kind (distinct same_kind (map (λ (y : Leaf). y.0) (take i c.args.leaves.now))) x.0) c.leaf-item.is
    ∙ map-more same_kind kind-same (λ (x : Leaf). x.0) c.args.leaves.now i leaf (omega arith)
