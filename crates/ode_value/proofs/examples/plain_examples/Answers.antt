use Rattle.std.proofs.Common.{◌≡◌, pos, false, true, ap, []}
use Rattle.std.specs.Prelude.{negsuc, codes, ◌∷◌}
use Rattle.ode_value.specs.Examples.{faulty}
use Rattle.ode_value.specs.Masks.{Slots, Plain, plain, plain_of}
use Rattle.ode_value.specs.declared.operator.BinOp.TheVariants.{And, Or, Lt, Div, Eq}
use Rattle.ode_value.specs.declared.operator.UnOp.TheVariants.{Minus, Not}
use Rattle.ode_value.specs.declared.statement.Expr.TheOpen as o
use Rattle.ode_value.specs.declared.value.Value.{Value}
use Rattle.ode_value.specs.declared.value.Value.TheVariants as value
use Rattle.ode_value.proofs.PlainLaws.{plain-Lit, plain-Local, plain-Own, plain-Unary, plain-Binary}
use Rattle.ode_value.proofs.examples.plain_examples.Goals as goal

abbrev nothing : Slots
nothing = record { locals = []; own = [] }

abbrev lit : Value → Plain
lit x = plain_of (o.Lit x)

abbrev faulty_plain : Plain
faulty_plain = plain_of (o.Binary Eq (plain_of (o.Binary Div (lit (value.Int (pos 1))) (lit (value.Int (pos 0))))) (lit (value.Int (pos 1))))

read_faulty : plain faulty ≡ faulty_plain
read_faulty = plain-Binary Eq _ _ _ _ (plain-Binary Div _ _ _ _ (plain-Lit (value.Int (pos 1))) (plain-Lit (value.Int (pos 0)))) (plain-Lit (value.Int (pos 1)))

pub returns-clause-and : goal.returns-clause-and
returns-clause-and g = ap (λ (p : Plain). p nothing) (plain-Binary And _ _ _ _ (plain-Lit (value.Bool false)) read_faulty)

pub returns-clause-or : goal.returns-clause-or
returns-clause-or g = ap (λ (p : Plain). p nothing) (plain-Binary Or _ _ _ _ (plain-Lit (value.Bool true)) read_faulty)

pub returns-clause-not : goal.returns-clause-not
returns-clause-not g = ap (λ (p : Plain). p nothing) (plain-Unary Not _ _ read_faulty)

pub returns-clause-less : goal.returns-clause-less
returns-clause-less g =
    ap (λ (p : Plain). p (record { locals = value.Text (codes "ab") ∷ []; own = value.Text (codes "b") ∷ [] })) (plain-Binary Lt _ _ _ _ (plain-Local 0) (plain-Own 0))

pub returns-clause-minus : goal.returns-clause-minus
returns-clause-minus g = ap (λ (p : Plain). p (record { locals = value.Int (negsuc 9223372036854775807) ∷ []; own = [] })) (plain-Unary Minus _ _ (plain-Local 0))
