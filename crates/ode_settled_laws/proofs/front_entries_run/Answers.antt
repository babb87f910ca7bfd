use Rattle.ode_settled_laws.proofs.WaitLaws.{front_runs}
use Rattle.ode_settled_laws.proofs.front_entries_run.Goals as goal

pub returns : goal.returns
returns c = λ l w good q more generation is. front_runs q more w.bones.queue generation good.bones.rising_queue is
