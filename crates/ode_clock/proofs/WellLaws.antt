-- The worlds that a clock command leaves are well.
use Rattle.std.proofs.Common.{◌≡◌, ◌<◌, ◌≤◌, ℕ, ℤ, List, [], ◌∷◌, Ok, length}
use Rattle.std.specs.Int.{w64}
use Rattle.std.specs.List.{AllByRecursion}
use Rattle.std.specs.Prelude.{FitsSigned}
use Rattle.ode_clock.specs.Clocking.{clock_settled}
use Rattle.ode_good_laws.proofs.ClockRuns.{Has, clock_well}
use Rattle.ode_good_laws.specs.Well.{IsWell}
use Rattle.ode_good_runs.proofs.DueLaws.{behind_fits}
use Rattle.ode_good_runs.proofs.GoodRuns.{clock_limits, clock_room, ticks_of}
use Rattle.ode_language.specs.Languages.{ode}
use Rattle.ode_language_laws.proofs.LanguageRuns.{reads_well, sound_rules}
use Rattle.ode_machine.specs.Refusals.{ticks_in}
use Rattle.ode_timer.specs.Due.{behind}
use Rattle.ode_value.specs.Draining.{world_after}
use Rattle.ode_value.specs.GoodWorlds.{IsPosition}
use Rattle.ode_value.specs.Language.{Language, ListWorld, Settlings}
use Rattle.ode_value.specs.Limits.{drain_limit, due_limit, number_limit}
use Rattle.ode_value.specs.Objects.{Histories, Starts}
use Rattle.ode_value.specs.Settling.{Settled}
use Rattle.ode_value.specs.Worlds.{Position}

abbrev pub AllWell : Language → Settlings → Type 0
AllWell l settled = AllByRecursion (λ (s : Settled Histories Starts). IsWell l s.0) settled

pub clock_settles_well : (w : ListWorld) → IsWell ode w → w.bones.transaction < number_limit → (text : List ℕ) (t : ℤ × List Position) → ticks_in ode w.bones text ≡ Ok t → AllWell ode (clock_settled w t)
clock_settles_well w well left text t is =
    let are = ticks_of ode sound_rules reads_well w well text t is in
    clock_well ode t.1 (behind t.0) are.1.fit (behind_fits t.0 are.0) (clock_limits ode sound_rules reads_well (length t.1) are.1.few) drain_limit w well
    (clock_room ode sound_rules reads_well w.bones.transaction (length t.1) left are.1.few)

-- so is the last of them
pub last_is_well : (w : ListWorld) (settled : Settlings) → IsWell ode w → AllWell ode settled → IsWell ode (world_after w settled)
last_is_well w [] well all = well
last_is_well w (s ∷ settled) well all = last_is_well s.0 settled all.0 all.1

-- what is due are few positions, and all are in their range
pub due_are : (w : ListWorld) → IsWell ode w → (text : List ℕ) (t : ℤ × List Position) → ticks_in ode w.bones text ≡ Ok t → FitsSigned w64 t.0 × AllByRecursion IsPosition t.1 × (length t.1 ≤ due_limit)
due_are w well text t is = let are = ticks_of ode sound_rules reads_well w well text t is in (are.0, are.1.fit, are.1.few)

-- and there are numbers for so many ticks
pub has_numbers : (w : ListWorld) → IsWell ode w → w.bones.transaction < number_limit → (n : ℕ) → n ≤ due_limit → Has ode n w
has_numbers w well left n few = (well, clock_room ode sound_rules reads_well w.bones.transaction n left few)
