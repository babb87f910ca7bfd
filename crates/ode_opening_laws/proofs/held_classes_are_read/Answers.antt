use Rattle.ode_opening_laws.proofs.Reading.{classes_are_read}
use Rattle.ode_opening_laws.proofs.held_classes_are_read.Goals as goal

pub returns : goal.returns
returns c = λ entries tables added ds held. classes_are_read c.one_spelling.ensures.again entries tables added ds held
