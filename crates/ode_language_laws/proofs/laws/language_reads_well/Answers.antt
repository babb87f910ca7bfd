use Rattle.ode_language_laws.proofs.LanguageRuns.{reads_well}
use Rattle.ode_language_laws.proofs.laws.language_reads_well.Goals as goal

pub returns : goal.returns
returns c = reads_well
