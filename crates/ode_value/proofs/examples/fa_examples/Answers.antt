use Rattle.std.specs.Prelude.{codes, None}
use Rattle.ode_value.specs.Examples.{a, b, c as c_leaf, kind_of, calls}
use Rattle.ode_value.specs.declared.event.EventExpr.TheVariants.{Choose, Fa, FaAbs}
use Rattle.ode_value.proofs.ExampleLaws.{read-Leaf, read-Choose, read-Fa, read-FaAbs, found-read}
use Rattle.ode_value.proofs.examples.fa_examples.Goals as goal

pub returns-clause-same_place : goal.returns-clause-same_place
returns-clause-same_place g =
    found-read (Fa a b b) _ _ (read-Fa a b b _ _ _ _ _ _ (read-Leaf (kind_of 97) None) (read-Leaf (kind_of 98) None) (read-Leaf (kind_of 98) None)) (calls (codes "ab"))

pub returns-clause-later_start : goal.returns-clause-later_start
returns-clause-later_start g =
    found-read (Fa a b c_leaf) _ _ (read-Fa a b c_leaf _ _ _ _ _ _ (read-Leaf (kind_of 97) None) (read-Leaf (kind_of 98) None) (read-Leaf (kind_of 99) None)) (calls (codes "acab"))

pub returns-clause-behind_the_start : goal.returns-clause-behind_the_start
returns-clause-behind_the_start g =
    found-read (Fa a b (Choose 1 c_leaf)) _ _
    (read-Fa a b (Choose 1 c_leaf) _ _ _ _ _ _ (read-Leaf (kind_of 97) None) (read-Leaf (kind_of 98) None) (read-Choose 1 c_leaf _ _ (read-Leaf (kind_of 99) None)))
    (calls (codes "cacb"))

pub returns-clause-whole_history : goal.returns-clause-whole_history
returns-clause-whole_history g =
    found-read (FaAbs a b (Choose 1 c_leaf)) _ _
    (read-FaAbs a b (Choose 1 c_leaf) _ _ _ _ _ _ (read-Leaf (kind_of 97) None) (read-Leaf (kind_of 98) None) (read-Choose 1 c_leaf _ _ (read-Leaf (kind_of 99) None)))
    (calls (codes "cacb"))
