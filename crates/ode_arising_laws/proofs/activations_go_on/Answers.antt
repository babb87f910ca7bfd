use Rattle.ode_arising_laws.proofs.HadLaws.{live_go}
use Rattle.ode_arising_laws.proofs.activations_go_on.Goals as goal

pub returns : goal.returns
returns c = live_go
