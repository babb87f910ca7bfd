use Rattle.ode_activation_laws.proofs.OnLaws.{initially_on, named_on, switched_on}
use Rattle.ode_activation_laws.proofs.activations_follow.Goals as goal

pub returns-clause-trigger : goal.returns-clause-trigger
returns-clause-trigger c = λ tables t args x y id new stands fresh. switched_on tables t args x y id new stands fresh

pub returns-clause-named : goal.returns-clause-named
returns-clause-named c = named_on

pub returns-clause-initial : goal.returns-clause-initial
returns-clause-initial c = initially_on
