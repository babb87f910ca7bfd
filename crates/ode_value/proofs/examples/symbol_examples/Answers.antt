use Rattle.std.proofs.Common.{refl, ◌∙◌}
use Rattle.std.specs.Prelude.{Some, None, false}
use Rattle.ode_value.specs.Examples.{a, b, below_two, kind_of, masked, masked_whole}
use Rattle.ode_value.specs.declared.event.EventExpr.TheVariants.{Or}
use Rattle.ode_value.specs.declared.statement.Expr.TheVariants as expr
use Rattle.ode_value.specs.declared.value.Value.TheVariants as value
use Rattle.ode_value.proofs.ExampleLaws.{read-Leaf, read-Masked, read-Or, table-read}
use Rattle.ode_value.proofs.Sames.{expr-itself, same_lits}
use Rattle.ode_value.proofs.examples.symbol_examples.Goals as goal

pub returns-clause-of_leaves : goal.returns-clause-of_leaves
returns-clause-of_leaves g =
    table-read masked _ _ (read-Or _ b _ _ _ _ (read-Leaf (kind_of 97) (Some (expr.Lit (value.Bool false)))) (read-Leaf (kind_of 98) None)) ∙ simp same_lits refl

pub returns-clause-of_composites : goal.returns-clause-of_composites
returns-clause-of_composites g =
    table-read masked_whole _ _ (read-Masked (Or a b) below_two _ _ (read-Or a b _ _ _ _ (read-Leaf (kind_of 97) None) (read-Leaf (kind_of 98) None)))
    ∙ rw (expr-itself below_two) refl
