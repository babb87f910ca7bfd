use Rattle.std.proofs.Common.{rules, arith, ◌≡◌, ◌∙◌, ◌<◌, ◌≤◌, ◌-◌, ◌^◌, ℤ, List, Err, Option, length, map, min, ap, subst, false, w64, of_z, to_z}
use Rattle.std.specs.List.{All}
use Rattle.std.specs.Option.{IfSome}
use Rattle.std.specs.Prelude.{int_lt, FitsSigned}
use Rattle.std.proofs.lemmas.Int.{ints, to_z-of_z}
use Rattle.ode_clock.proofs.DueSteps.{due_found, due_past}
use Rattle.ode_clock.proofs.ticks.due_from.Goals as goal
use Rattle.ode_heap.specs.Answering.{class_of}
use Rattle.ode_heap_laws.specs.Few.{HoldsCounted}
use Rattle.ode_host.proofs.Calls.{rose_as}
use Rattle.ode_keep.specs.Entries.{Entries}
use Rattle.ode_language.specs.Languages.{ode}
use Rattle.ode_timer.specs.declared.clock.TimeRow.{TimeRow}
use Rattle.ode_timer.specs.Due.{HasPlaces, due}
use Rattle.ode_transact.proofs.BeginLaws.{damaged_before}
use Rattle.ode_value.specs.GoodWorlds.{IsPosition}
use Rattle.ode_value.specs.Language.{ListWorld}
use Rattle.ode_value.specs.Limits.{due_limit}
use Rattle.ode_value.specs.Worlds.{Position}

pub returns-in_err-rows-clause-undamaged : goal.returns-in_err-rows-clause-undamaged
returns-in_err-rows-clause-undamaged g c =
    let is : c.from_residual.result ≡ Err c.in_err-rows.field-0.0 = search rules in
    let Before : Type 0 = (entries : Entries) (w : ListWorld) → HoldsCounted ode entries w → g.K.Keep.holds c.args.heap.now (g.H.Host.view c.args.host.now) entries → c.args.classes.now ≡ map class_of w.bones.classes → ⊥ in
    let After : Type 0 = (entries : Entries) (w : ListWorld) → HoldsCounted ode entries w → c.args.classes.now ≡ map class_of w.bones.classes → g.K.Keep.holds c.args.heap.now (g.H.Host.view c.args.host.now) entries → ⊥ in
    damaged_before (List TimeRow) _ c.from_residual.result c.in_err-rows.field-0.0 is Before After (λ un entries w held same records. un entries w held records same) c.in_err-rows.ensures.undamaged

pub returns-in-Ok-clause-cause : goal.returns-in-Ok-clause-cause
returns-in-Ok-clause-cause g c = rose_as _ _ _ _ (λ e. absurd (cc (e))) (λ e. absurd (cc (e))) c.in_ok-rows.ensures.cause

pub returns-in-Ok-clause-is : goal.returns-in-Ok-clause-is
returns-in-Ok-clause-is g c = λ entries w held same clock records.
    let rows = c.in_ok-rows.ensures.rows ode entries w held records same in
    let fits : FitsSigned w64 c.args.new = search rules in
    let to : to_z w64 (of_z w64 c.args.new) ≡ c.args.new = to_z-of_z w64 c.args.new fits in
    let on : int_lt c.args.new c.args.old.now.instant ≡ false = grind (arith, ints) in
    let few : length (due c.in_ok-rows.rows c.args.old.now c.args.new) ≤ due_limit = subst (λ (t : ℤ). length (due c.in_ok-rows.rows c.args.old.now t) ≤ due_limit) to c.in-Ok.ensures.few in
    let are : All HasPlaces c.in_ok-rows.rows → c.in-Ok.events ≡ due c.in_ok-rows.rows c.args.old.now c.args.new = λ places. c.in-Ok.ensures.events places ∙ ap (λ (t : ℤ). due c.in_ok-rows.rows c.args.old.now t) to in
    let found = due_found w.bones c.in_ok-rows.rows c.args.old.now c.args.new c.in-Ok.events rows on few (c.clock_events_are_in_range.ensures.places w held.world.good) are in
    rw to_z-of_z found

pub returns-clause-is : goal.returns-clause-is
returns-clause-is g c = λ entries w held same clock records.
    let rows = c.in_ok-rows.ensures.rows ode entries w held records same in
    let fits : FitsSigned w64 c.args.new = search rules in
    let to : to_z w64 (of_z w64 c.args.new) ≡ c.args.new = to_z-of_z w64 c.args.new fits in
    let on : int_lt c.args.new c.args.old.now.instant ≡ false = grind (arith, ints) in
    let is : IsPosition c.args.old.now = subst (λ (p : Option Position). IfSome p IsPosition) clock held.world.good.bones.clock in
    let many : (due_limit < length (due c.in_ok-rows.rows c.args.old.now c.args.new)) × (c.in-Err-TooManyDue.count ≡ min (length (due c.in_ok-rows.rows c.args.old.now c.args.new)) (2 ^ 128 - 1)) =
    subst (λ (t : ℤ). (due_limit < length (due c.in_ok-rows.rows c.args.old.now t)) × (c.in-Err-TooManyDue.count ≡ min (length (due c.in_ok-rows.rows c.args.old.now t)) (2 ^ 128 - 1))) to
    (c.in-Err-TooManyDue.ensures.too_many c.in-Err-TooManyDue.count c.in-Err-TooManyDue.field-0-is) in
    due_past w.bones c.in_ok-rows.rows c.args.old.now c.args.new c.in-Err-TooManyDue.count rows on many.0 many.1 (c.clock_events_are_in_range.ensures.counts w held.world.good c.args.old.now is c.args.new fits)
