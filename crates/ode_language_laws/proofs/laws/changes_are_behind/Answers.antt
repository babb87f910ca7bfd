use Rattle.ode_language_laws.proofs.SoundChanges.{changed_behind}
use Rattle.ode_language_laws.proofs.laws.changes_are_behind.Goals as goal

pub returns : goal.returns
returns c piece change read w well classes accepted = changed_behind piece change read w well classes accepted
