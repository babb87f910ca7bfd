use Rattle.std.proofs.Common.{◌≡◌, refl, [], ◌∷◌, ◌∙◌, pos}
use Rattle.std.specs.Prelude.{None}
use Rattle.ode_value.specs.Examples.{a, b, below_two, call_with, kind_of, masked_whole}
use Rattle.ode_value.specs.Masks.{plain, plain_of}
use Rattle.ode_value.specs.declared.event.EventExpr.TheVariants.{Or}
use Rattle.ode_value.specs.declared.operator.BinOp.TheVariants.{Lt}
use Rattle.ode_value.specs.declared.statement.Expr.TheOpen as o
use Rattle.ode_value.specs.declared.value.Value.TheVariants.{Int}
use Rattle.ode_value.proofs.ExampleLaws.{read-Leaf, read-Masked, read-Or, found-read}
use Rattle.ode_value.proofs.PlainLaws.{plain-Binary, plain-Lit, plain-Own}
use Rattle.ode_value.proofs.Sames.{expr-itself}
use Rattle.ode_value.proofs.examples.composite_mask_examples.Goals as goal

read_below : plain below_two ≡ plain_of (o.Binary Lt (plain_of (o.Own 0)) (plain_of (o.Lit (Int (pos 2)))))
read_below = plain-Binary Lt _ _ _ _ (plain-Own 0) (plain-Lit (Int (pos 2)))

pub returns : goal.returns
returns g =
    found-read masked_whole _ _ (read-Masked (Or a b) below_two _ _ (read-Or a b _ _ _ _ (read-Leaf (kind_of 97) None) (read-Leaf (kind_of 98) None)))
    (call_with 97 0 ∷ call_with 98 1 ∷ call_with 97 2 ∷ [])
    ∙ rw (expr-itself below_two, read_below) refl
