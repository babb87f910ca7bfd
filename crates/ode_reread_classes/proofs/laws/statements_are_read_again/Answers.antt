use Rattle.ode_terminals.specs.declared.seen.Place.TheVariants.{Script}
use Rattle.ode_reread_classes.proofs.Readings.{simple_again}
use Rattle.ode_reread_classes.proofs.laws.statements_are_read_again.Goals as goal

pub returns : goal.returns
returns c = λ most text made s r e. simple_again most Script text made s r e
