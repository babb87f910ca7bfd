use Rattle.ode_run_laws.proofs.JoinLaws.{pieces_join, texts_join, worlds_join, final_join}
use Rattle.ode_run_laws.proofs.runs.runs_join.Goals as goal

pub returns-clause-pieces : goal.returns-clause-pieces
returns-clause-pieces c = pieces_join

pub returns-clause-texts : goal.returns-clause-texts
returns-clause-texts c = texts_join

pub returns-clause-worlds : goal.returns-clause-worlds
returns-clause-worlds c = worlds_join

pub returns-clause-last : goal.returns-clause-last
returns-clause-last c = final_join
