use Rattle.ode_heap_laws.proofs.Readable.{held_read}
use Rattle.ode_heap_laws.proofs.held_worlds_can_be_read.Goals as goal

pub returns : goal.returns
returns c = held_read c.values_that_fit_have_their_sorts.ensures.args
