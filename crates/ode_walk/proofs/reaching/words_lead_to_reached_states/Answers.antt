use Rattle.ode_walk.proofs.ReachingLaws.{is_led, is_told}
use Rattle.ode_walk.proofs.reaching.words_lead_to_reached_states.Goals as goal

pub returns-clause-words : goal.returns-clause-words
returns-clause-words c = λ t q whole is. is_told t whole q is

pub returns-clause-reached : goal.returns-clause-reached
returns-clause-reached c = λ t q is. is_led t q is
