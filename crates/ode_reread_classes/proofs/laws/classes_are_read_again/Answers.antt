use Rattle.ode_terminals.specs.declared.seen.Place.TheVariants.{Class}
use Rattle.ode_reread_classes.proofs.Readings.{class_again}
use Rattle.ode_reread_classes.proofs.laws.classes_are_read_again.Goals as goal

pub returns : goal.returns
returns c = λ most text made r. class_again most Class text made r
