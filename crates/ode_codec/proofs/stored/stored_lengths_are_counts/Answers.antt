use Rattle.ode_codec.proofs.StoredLengths.{length-activation, length-entry}
use Rattle.ode_codec.proofs.stored.stored_lengths_are_counts.Goals as goal

pub returns-clause-activation : goal.returns-clause-activation
returns-clause-activation c = length-activation c.lengths_are_counts.ensures.value

pub returns-clause-entry : goal.returns-clause-entry
returns-clause-entry c = length-entry c.lengths_are_counts.ensures.value
