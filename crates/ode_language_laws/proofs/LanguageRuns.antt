-- Runs of the language of scripts.
use Rattle.std.proofs.Common.{ℕ, List, refl}
use Rattle.std.specs.List.{AllByRecursion}
use Rattle.ode_value.specs.GoodWorlds.{IsGood}
use Rattle.ode_value.specs.Language.{ListWorld}
use Rattle.ode_value.specs.Worlds.{empty_world}
use Rattle.ode_machine.specs.Runs.{trace, worlds}
use Rattle.ode_accepted_laws.specs.Languages.{HasSoundRules}
use Rattle.ode_accepted_laws.proofs.Rules.{rules_sound}
use Rattle.ode_good_laws.specs.Changed.{HasSoundChanges}
use Rattle.ode_good_laws.specs.Well.{IsWell}
use Rattle.ode_good_runs.specs.Reading.{ReadsWell}
use Rattle.ode_good_runs.proofs.Declaring.{well_of}
use Rattle.ode_good_runs.proofs.Fresh.{fresh_well}
use Rattle.ode_good_runs.proofs.GoodRuns.{run_well}
use Rattle.ode_language.specs.Languages.{ode}
use Rattle.ode_sound_laws.specs.Typed.{AreFromOne}
use Rattle.ode_again_laws.proofs.Again.{again}
use Rattle.ode_language_laws.proofs.ReadChanges.{changes_fit}
use Rattle.ode_language_laws.proofs.ReadRefs.{literals_are}
use Rattle.ode_language_laws.proofs.Seconds.{instants_fit}
use Rattle.ode_language_laws.proofs.SoundChanges.{changed_well}

pub sound_rules : HasSoundRules ode
sound_rules = rules_sound ode (record { class_of = refl; checked = refl })

pub reads_well : ReadsWell ode
reads_well = record { literals = literals_are; again = again; changes = changes_fit; instants = instants_fit }

pub sound_changes : HasSoundChanges ode
sound_changes = record { changed = changed_well }

pub fresh_runs_well : (script : List ℕ) → AllByRecursion (IsWell ode) (worlds (trace ode empty_world script))
fresh_runs_well script = run_well ode sound_rules reads_well sound_changes empty_world (fresh_well ode sound_rules) script

pub runs_well : (w : ListWorld) → IsGood ode w → AreFromOne w.bones → (script : List ℕ) → AllByRecursion (IsWell ode) (worlds (trace ode w script))
runs_well w good ones script = run_well ode sound_rules reads_well sound_changes w (well_of ode sound_rules w good ones) script
