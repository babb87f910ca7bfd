use Rattle.std.specs.Prelude.{codes, None}
use Rattle.ode_value.specs.Examples.{a, b, kind_of, kinds, calls}
use Rattle.ode_value.specs.declared.event.EventExpr.TheVariants.{Sequence}
use Rattle.ode_value.specs.Views.{of_kinds}
use Rattle.ode_value.proofs.ExampleLaws.{read-Leaf, read-Sequence, found-read}
use Rattle.ode_value.proofs.examples.sequence_examples.Goals as goal

pub returns-clause-unlisted : goal.returns-clause-unlisted
returns-clause-unlisted g =
    found-read (Sequence a b) _ _ (read-Sequence a b _ _ _ _ (read-Leaf (kind_of 97) None) (read-Leaf (kind_of 98) None)) (of_kinds (kinds (codes "ab")) (calls (codes "acb")))

pub returns-clause-listed : goal.returns-clause-listed
returns-clause-listed g =
    found-read (Sequence a b) _ _ (read-Sequence a b _ _ _ _ (read-Leaf (kind_of 97) None) (read-Leaf (kind_of 98) None)) (of_kinds (kinds (codes "abc")) (calls (codes "acb")))
