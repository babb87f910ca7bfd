use Rattle.ode_changed_laws.proofs.Blocks.{all-counted, judged}
use Rattle.ode_changed_laws.proofs.changes_are_judged_class_by_class.Goals as goal

pub returns-clause-count : goal.returns-clause-count
returns-clause-count c = all-counted

pub returns-clause-judged : goal.returns-clause-judged
returns-clause-judged c = λ l b change are. judged l b are change
