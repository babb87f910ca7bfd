use Rattle.ode_overlay_laws.proofs.BeginLaws.{begun_law}
use Rattle.ode_overlay_laws.proofs.beginning.transactions_begin_alike.Goals as goal

pub returns : goal.returns
returns c = begun_law
