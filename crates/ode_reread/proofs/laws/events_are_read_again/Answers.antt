use Rattle.ode_terminals.specs.declared.seen.Place.TheVariants.{Class}
use Rattle.ode_reread.proofs.InstantKinds.{instants_good}
use Rattle.ode_reread.proofs.Readings.{event_again}
use Rattle.ode_reread.proofs.laws.events_are_read_again.Goals as goal

pub returns : goal.returns
returns c = λ most text made r. event_again most Class text made (instants_good Class) r
