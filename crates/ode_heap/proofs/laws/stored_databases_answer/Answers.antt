use Rattle.ode_heap.proofs.Reading.{counters_read}
use Rattle.ode_heap.proofs.Stored.{object_read}
use Rattle.ode_heap.proofs.StoredQueue.{entries_counted, entry_follows, object_follows}
use Rattle.ode_heap.proofs.StoredVersions.{activations_read, fields_read, stamped_read}
use Rattle.ode_heap.proofs.laws.stored_databases_answer.Goals as goal

pub returns-clause-counters : goal.returns-clause-counters
returns-clause-counters c = λ s is. counters_read c.one_spelling.ensures.again s is.counters

pub returns-clause-object : goal.returns-clause-object
returns-clause-object c = object_read c.one_spelling.ensures.again

pub returns-clause-stamped : goal.returns-clause-stamped
returns-clause-stamped c = λ s id number class is. stamped_read c.one_spelling.ensures.again s id number class is

pub returns-clause-version : goal.returns-clause-version
returns-clause-version c = λ s id number class is. fields_read c.one_spelling.ensures.again s id number class is

pub returns-clause-activations : goal.returns-clause-activations
returns-clause-activations c = λ s id is. activations_read s c.one_spelling.ensures.again id is

pub returns-clause-next_object : goal.returns-clause-next_object
returns-clause-next_object c = object_follows

pub returns-clause-next_entry : goal.returns-clause-next_entry
returns-clause-next_entry c = entry_follows c.one_spelling.ensures.again

pub returns-clause-queued : goal.returns-clause-queued
returns-clause-queued c = entries_counted
