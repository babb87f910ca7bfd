use Rattle.ode_value.specs.Pasts.{lists}
use Rattle.ode_laws.proofs.CountLaws as laws
use Rattle.ode_laws.proofs.GoodNumbers.{good_counted}
use Rattle.ode_laws.proofs.counts.counters_stay_in_range.Goals as goal

pub returns-clause-good : goal.returns-clause-good
returns-clause-good c = good_counted

pub returns-clause-begun : goal.returns-clause-begun
returns-clause-begun c = laws.begun_counted

pub returns-clause-statement : goal.returns-clause-statement
returns-clause-statement c x h s = laws.statements_counted lists x h s

pub returns-clause-completion : goal.returns-clause-completion
returns-clause-completion c x h = laws.completion_counted lists x h

pub returns-clause-commit : goal.returns-clause-commit
returns-clause-commit c x h = laws.commit_counted lists x h

pub returns-clause-abort : goal.returns-clause-abort
returns-clause-abort c reason x h = laws.abort_counted lists reason x h
