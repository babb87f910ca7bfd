use Rattle.ode_heap.proofs.Own.{activations_of_own, object_of_own}
use Rattle.ode_heap.proofs.laws.objects_are_read_from_their_own_records.Goals as goal

pub returns-clause-object : goal.returns-clause-object
returns-clause-object c = object_of_own

pub returns-clause-activations : goal.returns-clause-activations
returns-clause-activations c = activations_of_own
