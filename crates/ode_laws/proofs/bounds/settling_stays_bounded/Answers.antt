use Rattle.ode_value.specs.Pasts.{lists}
use Rattle.ode_laws.proofs.LastLaws as laws
use Rattle.ode_laws.proofs.bounds.settling_stays_bounded.Goals as goal

pub returns-clause-commit_keys : goal.returns-clause-commit_keys
returns-clause-commit_keys c = laws.commit_keys lists

pub returns-clause-abort_keys : goal.returns-clause-abort_keys
returns-clause-abort_keys c = laws.abort_keys lists

pub returns-clause-commit_text : goal.returns-clause-commit_text
returns-clause-commit_text c = laws.commit_text lists

pub returns-clause-abort_text : goal.returns-clause-abort_text
returns-clause-abort_text c = laws.abort_text lists
