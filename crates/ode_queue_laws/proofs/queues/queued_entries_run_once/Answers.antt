use Rattle.ode_queue_laws.proofs.RunMoves.{runs_move, runs_numbered, runs_use_once, good_queue}
use Rattle.ode_queue_laws.proofs.queues.queued_entries_run_once.Goals as goal

pub returns-clause-moves : goal.returns-clause-moves
returns-clause-moves c = runs_move

pub returns-clause-numbered : goal.returns-clause-numbered
returns-clause-numbered c = runs_numbered

pub returns-clause-once : goal.returns-clause-once
returns-clause-once c = runs_use_once

pub returns-clause-good : goal.returns-clause-good
returns-clause-good c = good_queue
