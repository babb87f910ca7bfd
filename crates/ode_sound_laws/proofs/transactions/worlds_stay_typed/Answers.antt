use Rattle.ode_value.specs.Pasts.{lists}
use Rattle.ode_sound_laws.proofs.SettleLaws.{commit_typed, abort_typed}
use Rattle.ode_sound_laws.proofs.WorldLaws as laws
use Rattle.ode_sound_laws.proofs.transactions.worlds_stay_typed.Goals as goal

pub returns-clause-commit : goal.returns-clause-commit
returns-clause-commit c x h = commit_typed lists x h

pub returns-clause-abort : goal.returns-clause-abort
returns-clause-abort c reason x h = abort_typed lists reason x h

pub returns-clause-whole : goal.returns-clause-whole
returns-clause-whole c origin work w h does = laws.whole_typed lists origin work w h does

pub returns-clause-entry : goal.returns-clause-entry
returns-clause-entry c w h q fits = laws.entry_typed lists w h q fits

pub returns-clause-drain : goal.returns-clause-drain
returns-clause-drain c most w h = laws.drain_typed lists most w h
