use Rattle.std.proofs.Common.{rules, ◌≡◌, ◌∙◌, ℤ, List, Result, Err, map, ap}
use Rattle.ode_clock.proofs.ticks.ticks.Goals as goal
use Rattle.ode_heap.specs.Answering.{class_of}
use Rattle.ode_heap_laws.specs.Few.{HoldsCounted}
use Rattle.ode_keep.specs.Entries.{Entries}
use Rattle.ode_language.specs.Languages.{ode}
use Rattle.ode_transact.proofs.BeginLaws.{damaged_before}
use Rattle.ode_transact.proofs.FrontLaws.{heap_holds, rest_reads_on}
use Rattle.ode_transact.specs.Resting.{IsAtRest}
use Rattle.ode_value.specs.Language.{ListWorld}
use Rattle.ode_value.specs.declared.reason.Refusal.{Refusal}
use Rattle.ode_value.specs.Worlds.{Bones, Position}

abbrev Ticks : Type 0
Ticks = Result (ℤ × List Position) Refusal

pub returns-in_err-ticks-clause-undamaged : goal.returns-in_err-ticks-clause-undamaged
returns-in_err-ticks-clause-undamaged g c =
    let is : c.from_residual.result ≡ Err c.in_err-ticks.field-0.0 = search rules in
    let Before : Type 0 = (entries : Entries) (w : ListWorld) → HoldsCounted ode entries w → c.args.rest.classes ≡ map class_of w.bones.classes → g.K.Keep.holds c.new-heap.result (g.H.Host.view c.args.host.now) entries → ⊥ in
    let After : Type 0 = (w : ListWorld) → IsAtRest g.H.Host.view g.K.Keep.holds g.K.Keep.live ode w c.args.rest c.args.host.now → ⊥ in
    damaged_before Ticks _ c.from_residual.result c.in_err-ticks.field-0.0 is Before After (λ un w rest.
    let held = heap_holds g.H.Host.view g.K.Keep.holds g.K.Keep.live ode w c.args.rest c.new-heap.result c.args.host.now rest c.new-heap.ensures in
    un rest.entries w rest.world (rest.classes ∙ ap (λ (b : Bones). map class_of b.classes) rest.world.world.stands.bones) held) c.in_err-ticks.ensures.undamaged

pub returns-clause-is : goal.returns-clause-is
returns-clause-is g c = λ w rest.
    let held = heap_holds g.H.Host.view g.K.Keep.holds g.K.Keep.live ode w c.args.rest c.new-heap.result c.args.host.now rest c.new-heap.ensures in (
      rest_reads_on g.H.Host.view g.K.Keep.holds g.K.Keep.live ode w c.args.rest c.ticks_in.new.heap c.into_keeper.result c.args.host.now c.ticks_in.new.host rest c.in_ok-ticks.ensures.usable
          (c.in_ok-ticks.ensures.holds rest.entries held) c.into_keeper.ensures,
      c.in_ok-ticks.ensures.is rest.entries w rest.world (rest.classes ∙ ap (λ (b : Bones). map class_of b.classes) rest.world.world.stands.bones) held,
    )
