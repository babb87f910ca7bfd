use Rattle.std.proofs.Common.{ap, refl}
use Rattle.std.specs.Prelude.{codes}
use Rattle.ode_value.specs.Examples.{kind_of}
use Rattle.ode_value.specs.Printing.{Printed}
use Rattle.ode_value.specs.declared.operator.BinOp.TheVariants.{Lt}
use Rattle.ode_value.specs.declared.value.Value.TheVariants.{Text}
use Rattle.ode_value.proofs.PrintLaws.{printed-Lit, printed-Name, printed-Binary, event-Leaf, event-masked, event-And, event-Or, stmt-Say}
use Rattle.ode_value.proofs.examples.printing_examples.Goals as goal

pub returns-clause-events : goal.returns-clause-events
returns-clause-events g = ap (λ (p : Printed). p.text) (event-Or _ _ _ _ (event-Leaf (kind_of 97)) (event-And _ _ _ _ (event-Leaf (kind_of 98)) (event-Leaf (kind_of 99))))

pub returns-clause-of_class : goal.returns-clause-of_class
returns-clause-of_class g =
    rw
    (event-masked (kind_of 97) _ _ (printed-Binary Lt _ _ _ _ (printed-Name (codes "n")) (printed-Name (codes "k"))), stmt-Say _ _ (printed-Lit (Text (codes "x"))))
    refl
