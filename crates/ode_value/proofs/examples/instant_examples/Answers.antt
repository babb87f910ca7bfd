use Rattle.std.proofs.Common.{refl}
use Rattle.ode_value.specs.Instants.{instant_text}
use Rattle.ode_value.proofs.examples.instant_examples.Goals as goal

pub returns-clause-early : goal.returns-clause-early
unfolding instant_text
returns-clause-early g = refl

pub returns-clause-leap_day : goal.returns-clause-leap_day
unfolding instant_text
returns-clause-leap_day g = refl

pub returns-clause-first : goal.returns-clause-first
unfolding instant_text
returns-clause-first g = refl

pub returns-clause-last : goal.returns-clause-last
unfolding instant_text
returns-clause-last g = refl
