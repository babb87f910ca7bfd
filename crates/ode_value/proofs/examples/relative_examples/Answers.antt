use Rattle.std.specs.Prelude.{codes, None}
use Rattle.ode_value.specs.Examples.{a, b, kind_of, calls}
use Rattle.ode_value.specs.declared.event.EventExpr.TheVariants.{First, Relative, RelPlus, Prior, Choose}
use Rattle.ode_value.proofs.ExampleLaws.{read-Leaf, read-First, read-Choose, read-Relative, read-RelPlus, read-Prior, found-read}
use Rattle.ode_value.proofs.examples.relative_examples.Goals as goal

pub returns-clause-relative_first : goal.returns-clause-relative_first
returns-clause-relative_first g =
    found-read (Relative a First) _ _ (read-Relative a First _ _ _ _ (read-Leaf (kind_of 97) None) read-First) (calls (codes "abb"))

pub returns-clause-prior_first : goal.returns-clause-prior_first
returns-clause-prior_first g =
    found-read (Prior a First) _ _ (read-Prior a First _ _ _ _ (read-Leaf (kind_of 97) None) read-First) (calls (codes "abb"))

pub returns-clause-relative_second : goal.returns-clause-relative_second
returns-clause-relative_second g =
    found-read (Relative a (Choose 2 b)) _ _ (read-Relative a (Choose 2 b) _ _ _ _ (read-Leaf (kind_of 97) None) (read-Choose 2 b _ _ (read-Leaf (kind_of 98) None))) (calls (codes "babb"))

pub returns-clause-prior_second : goal.returns-clause-prior_second
returns-clause-prior_second g =
    found-read (Prior a (Choose 2 b)) _ _ (read-Prior a (Choose 2 b) _ _ _ _ (read-Leaf (kind_of 97) None) (read-Choose 2 b _ _ (read-Leaf (kind_of 98) None))) (calls (codes "babb"))

pub returns-clause-each_start : goal.returns-clause-each_start
returns-clause-each_start g =
    found-read (Relative a (Choose 2 b)) _ _ (read-Relative a (Choose 2 b) _ _ _ _ (read-Leaf (kind_of 97) None) (read-Choose 2 b _ _ (read-Leaf (kind_of 98) None))) (calls (codes "abab"))

pub returns-clause-relplus_second : goal.returns-clause-relplus_second
returns-clause-relplus_second g =
    found-read (RelPlus (Choose 2 a)) _ _ (read-RelPlus (Choose 2 a) _ _ (read-Choose 2 a _ _ (read-Leaf (kind_of 97) None))) (calls (codes "aaaaa"))
