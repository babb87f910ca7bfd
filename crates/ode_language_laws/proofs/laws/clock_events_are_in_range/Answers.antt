use Rattle.ode_language_laws.proofs.Recurring.{due_are_counted, times_have_places, times_recur}
use Rattle.ode_language_laws.proofs.laws.clock_events_are_in_range.Goals as goal

pub returns-clause-recur : goal.returns-clause-recur
returns-clause-recur c w good = times_recur w good

pub returns-clause-places : goal.returns-clause-places
returns-clause-places c w good = times_have_places w good

pub returns-clause-counts : goal.returns-clause-counts
returns-clause-counts c w good old is t fits = due_are_counted w good old is t fits
