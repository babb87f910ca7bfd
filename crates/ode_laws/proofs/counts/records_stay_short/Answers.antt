use Rattle.ode_value.specs.Pasts.{lists}
use Rattle.ode_laws.proofs.SizeLaws as laws
use Rattle.ode_laws.proofs.counts.records_stay_short.Goals as goal

pub returns-clause-statement : goal.returns-clause-statement
returns-clause-statement c x sized s = laws.statements_sized lists x sized s

pub returns-clause-completion : goal.returns-clause-completion
returns-clause-completion c x sized = laws.completion_sized lists x sized

pub returns-clause-commit : goal.returns-clause-commit
returns-clause-commit c x sized = laws.commit_sized lists x sized

pub returns-clause-abort : goal.returns-clause-abort
returns-clause-abort c reason x sized = laws.abort_sized lists reason x sized
