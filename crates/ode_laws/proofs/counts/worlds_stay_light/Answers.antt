use Rattle.ode_value.specs.Pasts.{lists}
use Rattle.ode_laws.proofs.WeightLaws as laws
use Rattle.ode_laws.proofs.counts.worlds_stay_light.Goals as goal

pub returns-clause-completion : goal.returns-clause-completion
returns-clause-completion c x y is = laws.completion_light lists x y is

pub returns-clause-commit : goal.returns-clause-commit
returns-clause-commit c x light = laws.commit_light lists x light

pub returns-clause-abort : goal.returns-clause-abort
returns-clause-abort c reason x light = laws.abort_light lists reason x light
