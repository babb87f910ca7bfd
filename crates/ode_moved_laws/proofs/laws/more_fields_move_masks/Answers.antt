use Rattle.ode_moved_laws.proofs.MovedChecks.{fitting_moved, listed_moved}
use Rattle.ode_moved_laws.proofs.laws.more_fields_move_masks.Goals as goal

pub returns-clause-expression : goal.returns-clause-expression
returns-clause-expression c at more s t w plain u e f h = fitting_moved at more s t w plain u e f h

pub returns-clause-event : goal.returns-clause-event
returns-clause-event c at more s t w e f h = listed_moved at more e s t w f h
