use Rattle.ode_language_laws.proofs.LanguageRuns.{sound_changes}
use Rattle.ode_language_laws.proofs.laws.language_has_sound_changes.Goals as goal

pub returns : goal.returns
returns c = sound_changes
