use Rattle.ode_terminals.specs.declared.seen.Place.TheVariants.{Anywhere}
use Rattle.ode_reread.proofs.Readings.{expr_again}
use Rattle.ode_reread.proofs.laws.expressions_are_read_again.Goals as goal

pub returns : goal.returns
returns c = λ most text made r. expr_again most Anywhere text made r
