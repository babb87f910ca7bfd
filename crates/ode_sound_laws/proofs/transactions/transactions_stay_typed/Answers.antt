use Rattle.ode_value.specs.Pasts.{lists}
use Rattle.ode_sound_laws.proofs.WorldLaws as laws
use Rattle.ode_sound_laws.proofs.transactions.transactions_stay_typed.Goals as goal

pub returns-clause-fresh : goal.returns-clause-fresh
returns-clause-fresh c = laws.fresh_typed

pub returns-clause-good : goal.returns-clause-good
returns-clause-good c l w good sound ones = laws.good_typed l w good sound ones

pub returns-clause-begun : goal.returns-clause-begun
returns-clause-begun c origin w h = laws.begun_typed origin w h

pub returns-clause-statement : goal.returns-clause-statement
returns-clause-statement c x h literals known s typed = laws.statement_typed lists x h literals known s typed

pub returns-clause-touch : goal.returns-clause-touch
returns-clause-touch c x h id = laws.touch_typed lists x h id

pub returns-clause-point : goal.returns-clause-point
returns-clause-point c x h id kind args = laws.point_typed lists x h id kind args

pub returns-clause-firing : goal.returns-clause-firing
returns-clause-firing c x h f fits = laws.firing_typed lists x h f fits

pub returns-clause-completion : goal.returns-clause-completion
returns-clause-completion c x h = laws.completion_typed lists x h
