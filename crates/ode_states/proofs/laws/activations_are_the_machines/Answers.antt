use Rattle.ode_states.proofs.EndLaws.{numbers_end}
use Rattle.ode_states.proofs.MachineLaws.{numbers_go_on, numbers_fire}
use Rattle.ode_states.proofs.laws.activations_are_the_machines.Goals as goal

pub returns-clause-states : goal.returns-clause-states
returns-clause-states c by tables alphabets classes p o acts kept are is = numbers_go_on by tables alphabets classes p o acts are kept is

pub returns-clause-firings : goal.returns-clause-firings
returns-clause-firings c by tables alphabets classes p o acts kept are is = numbers_fire by tables alphabets classes p o acts are kept is

pub returns-clause-ends : goal.returns-clause-ends
returns-clause-ends c by tables alphabets classes p o acts kept are is = numbers_end by tables alphabets classes p o acts are kept is
