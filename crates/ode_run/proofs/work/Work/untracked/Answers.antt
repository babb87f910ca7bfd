use Rattle.std.proofs.Common.{◌≡◌, refl, sym, subst, Option, Result, List}
use Rattle.std.specs.Prelude.{IfOk}
use Rattle.ode_interpreter.specs.Seen as interpreter
use Rattle.ode_interpreter.specs.declared.stop.Stop.{Stop}
use Rattle.ode_known_laws.proofs.HeldLaws.{read_now}
use Rattle.ode_known_laws.specs.Knowing.{declared_in}
use Rattle.ode_objects.specs.Loading.{whole_in}
use Rattle.ode_objects.specs.declared.object.Object.{Object}
use Rattle.ode_overlay.specs.Answers.{Answers, from_records}
use Rattle.ode_overlay.specs.declared.origin.Origin.TheVariants.{Script}
use Rattle.ode_run.proofs.EndLaws.{read_sound, reading_leaves}
use Rattle.ode_run.proofs.ObjectLaws.{whole_seen, whole_there}
use Rattle.ode_run.proofs.ServeLaws.{reading_serves}
use Rattle.ode_run.proofs.work.Work.untracked.Goals as goal
use Rattle.ode_run.specs.Knowing.{Failed, Holds, beside}
use Rattle.ode_run.specs.Testing.{seen_as}
use Rattle.ode_value.specs.Denoting.{object_at}
use Rattle.ode_value.specs.declared.class.Class.{Class}
use Rattle.ode_view_laws.specs.Viewing.{began_over, nothing_beside, running}

pub returns-clause-value : goal.returns-clause-value
returns-clause-value g c = λ all k same holds none.
    let b = beside k.first c.args.self.now.deferred.now c.args.self.now.text.now c.args.self.now.budget.now in
    let x = c.args.self.now.overlay.now in
    let y = running all k.first x b in
    let stands = c.overlays_have_views.ensures.stands all k.first x b holds.known.viewed.over in
    let read = read_now k.entries k.first holds.known.held x y c.args.id stands refl c.objects_are_read_fresh.ensures in
    subst (λ (r : Result (Option Object) Stop). IfOk r (λ found. object_at y.now.bones c.args.id ≡ seen_as c.args.id found)) (sym c.read.ensures.is)
    (whole_seen (declared_in k.first) k.entries x y c.args.id c.load_whole.result read none
    (subst (λ (cs : List Class). Answers c.load_whole.result (from_records (whole_in cs k.entries c.args.id))) same (c.load_whole.ensures.value k.entries holds.records)))

pub returns-clause-kept : goal.returns-clause-kept
returns-clause-kept g c = λ k same holds.
    let x = c.args.self.now.overlay.now in
    let none = began_over Script k.first in
    let stands = c.overlays_have_views.ensures.stands k.first.bones.classes k.first none nothing_beside (record { counters = refl; queued = refl }) in
    let read = read_now k.entries k.first holds.known.held none (running k.first.bones.classes k.first none nothing_beside) c.args.id stands refl c.objects_are_read_fresh.ensures in
    subst (λ (r : Result (Option Object) Stop). interpreter.Leaves r (Holds g.H.Host.view (g.K.Keep.holds c.load_whole.new.heap (g.H.Host.view c.load_whole.new.host)) (g.K.Keep.live c.load_whole.new.heap) c.load_whole.new.host x c.args.self.now.budget.now c.args.self.now.bytes k) (Failed g.H.Host.view c.load_whole.new.host k)) (sym c.read.ensures.is)
    (reading_leaves g.H.Host.view g.K.Keep.holds g.K.Keep.live c.args.self.now.host.now c.load_whole.new.host c.args.self.now.heap.now c.load_whole.new.heap x x c.args.self.now.budget.now c.args.self.now.bytes k holds c.load_whole.ensures.looks
    c.load_whole.result (read_sound c.load_whole.result (from_records (whole_in (declared_in k.first) k.entries c.args.id))
    (subst (λ (cs : List Class). Answers c.load_whole.result (from_records (whole_in cs k.entries c.args.id))) same (c.load_whole.ensures.value k.entries holds.records))
    (whole_there (declared_in k.first) k.entries none (running k.first.bones.classes k.first none nothing_beside) c.args.id read refl)) holds.known c.load_whole.ensures.holds c.load_whole.ensures.usable c.load_whole.ensures.cause)

pub returns-clause-faults : goal.returns-clause-faults
returns-clause-faults g c = λ began serves.
    reading_serves (g.H.Host.view began) (g.H.Host.view c.args.self.now.host.now) (g.H.Host.view c.load_whole.new.host) (g.K.Keep.live c.args.self.now.heap.now) (g.K.Keep.live c.load_whole.new.heap) serves c.load_whole.ensures.looks
    c.load_whole.result _ c.read.ensures.is c.load_whole.ensures.usable c.load_whole.ensures.cause
