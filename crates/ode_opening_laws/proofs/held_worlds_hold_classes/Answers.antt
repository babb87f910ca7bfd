use Rattle.ode_opening_laws.proofs.Sections.{classes_are_held}
use Rattle.ode_opening_laws.proofs.held_worlds_hold_classes.Goals as goal

pub returns : goal.returns
returns c = λ records w held. classes_are_held records w held
