use Rattle.ode_language_laws.proofs.LanguageRuns.{sound_rules}
use Rattle.ode_language_laws.proofs.laws.language_has_sound_rules.Goals as goal

pub returns : goal.returns
returns c = sound_rules
