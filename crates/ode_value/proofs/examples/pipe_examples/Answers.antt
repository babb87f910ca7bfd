use Rattle.std.specs.Prelude.{codes, None}
use Rattle.ode_value.specs.Examples.{a, kind_of, calls}
use Rattle.ode_value.specs.declared.event.EventExpr.TheVariants.{Any, Pipe, Choose}
use Rattle.ode_value.proofs.ExampleLaws.{read-Leaf, read-Any, read-Choose, read-Pipe, found-read}
use Rattle.ode_value.proofs.examples.pipe_examples.Goals as goal

pub returns : goal.returns
returns g = found-read (Pipe a (Choose 2 Any)) _ _ (read-Pipe a (Choose 2 Any) _ _ _ _ (read-Leaf (kind_of 97) None) (read-Choose 2 Any _ _ read-Any)) (calls (codes "baba"))
