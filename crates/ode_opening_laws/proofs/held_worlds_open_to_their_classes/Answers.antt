use Rattle.ode_opening_laws.proofs.held_worlds_open_to_their_classes.Goals as goal

pub returns : goal.returns
returns c = λ records w held. c.held_classes_are_read.ensures records held.stored.tables w.bones.added w.bones.classes (c.held_worlds_hold_classes.ensures records w held)
