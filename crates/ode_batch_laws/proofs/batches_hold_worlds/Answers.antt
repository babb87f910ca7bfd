use Rattle.ode_batch_laws.proofs.BatchLaws.{batch_holds}
use Rattle.ode_batch_laws.proofs.batches_hold_worlds.Goals as goal

pub returns : goal.returns
returns c = batch_holds
