use Rattle.std.proofs.Common.{rules, ◌≡◌, ◌∙◌, ℤ, List, Result, Some, None, Ok, Err, map, ap, sym, w64, of_z, to_z}
use Rattle.std.specs.Prelude.{FitsSigned}
use Rattle.std.proofs.lemmas.Int.{to_z-of_z}
use Rattle.std.proofs.lemmas.Result.{IfOk-weaker}
use Rattle.ode_clock.proofs.TextSteps.{ticks_are}
use Rattle.ode_clock.specs.Clocking.{due_by}
use Rattle.ode_clock.proofs.ticks.ticks_in.Goals as goal
use Rattle.ode_codec.specs.declared.record.Counters.{Counters}
use Rattle.ode_heap.specs.Answering.{class_of, counters_of}
use Rattle.ode_heap.specs.Looking.{counters_in}
use Rattle.ode_heap_laws.specs.Few.{HoldsCounted}
use Rattle.ode_keep.specs.Entries.{Entries}
use Rattle.ode_language.specs.Languages.{ode}
use Rattle.ode_machine.specs.Refusals.{ticks_in}
use Rattle.ode_timer.specs.Dates.{instant_of}
use Rattle.ode_transact.proofs.BeginLaws.{there_is, there_unbroken, undamaged_there}
use Rattle.ode_transact.proofs.DamageLaws.{damaged_so}
use Rattle.ode_transact.specs.Errors.{error_of}
use Rattle.ode_value.specs.Language.{ListWorld}
use Rattle.ode_value.specs.declared.reason.Refusal.{Refusal}
use Rattle.ode_value.specs.Worlds.{Position}

abbrev Ticks : Type 0
Ticks = Result (ℤ × List Position) Refusal

pub returns-in_err-counters-clause-undamaged : goal.returns-in_err-counters-clause-undamaged
returns-in_err-counters-clause-undamaged g c =
    let why = c.in_err-counters.field-0.0 in
    let is : c.from_residual.result ≡ Err (error_of why) = search rules in
    let Undamaged : Type 0 = (entries : Entries) (w : ListWorld) → HoldsCounted ode entries w → c.args.classes.now ≡ map class_of w.bones.classes → g.K.Keep.holds c.args.heap.now (g.H.Host.view c.args.host.now) entries → ⊥ in
    undamaged_there Counters _ c.from_residual.result why is Undamaged c.in_err-counters.ensures.too_large (λ key broken entries w held same records.
    there_unbroken (Err why) (counters_in entries) (counters_of w.bones) key (c.in_err-counters.ensures.value entries records) (c.heaps_show_held_worlds.ensures.counters ode entries w held) (ap (λ e. Err e) broken))

pub returns-in-None-clause-is : goal.returns-in-None-clause-is
returns-in-None-clause-is g c = λ entries w held same records.
    let fits : FitsSigned w64 c.in-Ok.new = search rules in
    let to : to_z w64 (of_z w64 c.in-Ok.new) ≡ c.in-Ok.new = to_z-of_z w64 c.in-Ok.new fits in
    let read : Some c.in-Ok.new ≡ instant_of c.args.text.now = c.in-Ok.ensures ∙ ap instant_of c.as_bytes.ensures.value in
    let counters = there_is _ (counters_in entries) (counters_of w.bones) (c.in_ok-counters.ensures.value entries records) (c.heaps_show_held_worlds.ensures.counters ode entries w held) in
    let found = ticks_are w.bones c.args.text.now c.in-Ok.new None read (c.in-None.ensures w.bones counters) in
    let at : Ok (to_z w64 (of_z w64 c.in-Ok.new), c.new.result) ≡ due_by w.bones None c.in-Ok.new =
    ap (λ (t : ℤ). Ok (t, c.new.result)) to ∙ ap (λ (ps : List Position). Ok (c.in-Ok.new, ps)) c.new.ensures in
    at ∙ found

pub returns-in-Some-clause-is : goal.returns-in-Some-clause-is
returns-in-Some-clause-is g c =
    let fits : FitsSigned w64 c.in-Ok.new = search rules in
    let to : to_z w64 (of_z w64 c.in-Ok.new) ≡ c.in-Ok.new = to_z-of_z w64 c.in-Ok.new fits in
    let read : Some c.in-Ok.new ≡ instant_of c.args.text.now = c.in-Ok.ensures ∙ ap instant_of c.as_bytes.ensures.value in
    let Before : Ticks → Type 0 = λ (found : Ticks). (entries : Entries) (w : ListWorld) → HoldsCounted ode entries w → c.args.classes.now ≡ map class_of w.bones.classes → w.bones.clock ≡ Some c.in-Some.old
    → g.K.Keep.holds c.counters.new.self (g.H.Host.view c.counters.new.host) entries → found ≡ due_by w.bones (Some c.in-Some.old) (to_z w64 (of_z w64 c.in-Ok.new)) in
    let After : Ticks → Type 0 = λ (found : Ticks). (entries : Entries) (w : ListWorld) → HoldsCounted ode entries w → c.args.classes.now ≡ map class_of w.bones.classes
    → g.K.Keep.holds c.args.heap.now (g.H.Host.view c.args.host.now) entries → found ≡ ticks_in ode w.bones c.args.text.now in
    IfOk-weaker c.due_from.result Before After (λ found is entries w held same records.
    let counters = there_is _ (counters_in entries) (counters_of w.bones) (c.in_ok-counters.ensures.value entries records) (c.heaps_show_held_worlds.ensures.counters ode entries w held) in
    let clock : Some c.in-Some.old ≡ w.bones.clock = c.in-Some.ensures w.bones counters in
    let due : found ≡ due_by w.bones (Some c.in-Some.old) c.in-Ok.new =
    is entries w held same (sym clock) (c.in_ok-counters.ensures.holds entries records) ∙ ap (due_by w.bones (Some c.in-Some.old)) to in
    due ∙ ticks_are w.bones c.args.text.now c.in-Ok.new (Some c.in-Some.old) read clock) c.due_from.ensures.is

pub returns-in-Some-clause-undamaged : goal.returns-in-Some-clause-undamaged
returns-in-Some-clause-undamaged g c =
    let Before : Type 0 = (entries : Entries) (w : ListWorld) → HoldsCounted ode entries w → c.args.classes.now ≡ map class_of w.bones.classes → g.K.Keep.holds c.counters.new.self (g.H.Host.view c.counters.new.host) entries → ⊥ in
    let After : Type 0 = (entries : Entries) (w : ListWorld) → HoldsCounted ode entries w → c.args.classes.now ≡ map class_of w.bones.classes → g.K.Keep.holds c.args.heap.now (g.H.Host.view c.args.host.now) entries → ⊥ in
    damaged_so c.due_from.result Before After (λ un entries w held same records. un entries w held same (c.in_ok-counters.ensures.holds entries records)) c.due_from.ensures.undamaged
