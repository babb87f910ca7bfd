use Rattle.ode_terminals.specs.declared.seen.Place.TheVariants.{Class}
use Rattle.ode_reread_classes.proofs.Readings.{body_again}
use Rattle.ode_reread_classes.proofs.laws.bodies_are_read_again.Goals as goal

pub returns : goal.returns
returns c = λ most text statements r. body_again most Class text statements r
