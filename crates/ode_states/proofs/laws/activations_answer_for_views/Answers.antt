use Rattle.ode_states.proofs.MachineLaws.{all_stand_behind, views_fire}
use Rattle.ode_states.proofs.laws.activations_answer_for_views.Goals as goal

pub returns-clause-stand : goal.returns-clause-stand
returns-clause-stand c by tables alphabets classes p o acts h starts standing = all_stand_behind by tables alphabets classes p o.class acts h starts standing

pub returns-clause-firings : goal.returns-clause-firings
returns-clause-firings c by tables alphabets classes p o acts kept starts are is standing = views_fire by tables alphabets classes p o acts are starts kept is standing
