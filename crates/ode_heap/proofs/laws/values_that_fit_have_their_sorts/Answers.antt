use Rattle.ode_heap.proofs.Sorts.{fields_fit, params_fit}
use Rattle.ode_heap.proofs.laws.values_that_fit_have_their_sorts.Goals as goal

pub returns-clause-fields : goal.returns-clause-fields
returns-clause-fields c = fields_fit

pub returns-clause-args : goal.returns-clause-args
returns-clause-args c = params_fit
