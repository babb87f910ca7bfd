use Rattle.ode_verdict_laws.proofs.Verdicts.{is-verdict}
use Rattle.ode_verdict_laws.proofs.laws.compared_is_the_verdict.Goals as goal

pub returns : goal.returns
returns c = is-verdict
