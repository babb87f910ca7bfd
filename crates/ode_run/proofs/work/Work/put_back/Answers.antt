use Rattle.std.proofs.Common.{refl, sym, subst}
use Rattle.std.specs.Prelude.{List, Result}
use Rattle.ode_interpreter.specs.Seen as interpreter
use Rattle.ode_interpreter.specs.declared.stop.Stop.{Stop}
use Rattle.ode_known_laws.proofs.HeldLaws.{read_now}
use Rattle.ode_known_laws.specs.Knowing.{declared_in}
use Rattle.ode_overlay.specs.Answers.{Leaves}
use Rattle.ode_overlay.specs.Changing.{put_acts}
use Rattle.ode_overlay.specs.declared.error.OverlayError.{OverlayError}
use Rattle.ode_run.proofs.EndLaws.{known_left, reading_leaves}
use Rattle.ode_run.proofs.ObjectLaws.{puts_sound}
use Rattle.ode_run.proofs.ServeLaws.{reading_serves}
use Rattle.ode_run.proofs.work.Work.put_back.Goals as goal
use Rattle.ode_run.specs.Knowing.{Failed, Holds, beside}
use Rattle.ode_value.specs.declared.class.Class.{Class}
use Rattle.ode_view_laws.specs.Viewing.{running}

pub returns-clause-kept : goal.returns-clause-kept
returns-clause-kept g c = λ k same holds.
    let x = c.args.self.now.overlay.now in
    let law = c.puts_known.ensures k.entries k.first x holds.known c.args.id c.args.there in
    let leaves = subst (λ (cs : List Class). Leaves c.put_acts.result c.put_acts.new.self (put_acts cs k.entries c.args.id c.args.there x)) same (c.put_acts.ensures.acts k.entries holds.records) in
    let known = known_left k.entries k.first x c.put_acts.new.self c.put_acts.result (put_acts (declared_in k.first) k.entries c.args.id c.args.there x) leaves c.put_acts.ensures.err holds.known law in
    let b = beside k.first c.args.self.now.deferred.now c.args.self.now.text.now c.args.self.now.budget.now in
    let y = running k.first.bones.classes k.first x b in
    let read = read_now k.entries k.first holds.known.held x y c.args.id (c.overlays_have_views.ensures.stands k.first.bones.classes k.first x b holds.known.viewed.over) refl c.objects_are_read_fresh.ensures in
    let sound = puts_sound (declared_in k.first) k.entries x y c.args.id c.args.there read in
    subst (λ (r : Result (Unit {0}) Stop). interpreter.Leaves r (Holds g.H.Host.view (g.K.Keep.holds c.put_acts.new.heap (g.H.Host.view c.put_acts.new.host)) (g.K.Keep.live c.put_acts.new.heap) c.put_acts.new.host c.put_acts.new.self c.args.self.now.budget.now c.args.self.now.bytes k) (Failed g.H.Host.view c.put_acts.new.host k)) (sym c.read.ensures.is)
    (reading_leaves g.H.Host.view g.K.Keep.holds g.K.Keep.live c.args.self.now.host.now c.put_acts.new.host c.args.self.now.heap.now c.put_acts.new.heap x c.put_acts.new.self c.args.self.now.budget.now c.args.self.now.bytes k holds c.put_acts.ensures.looks
    c.put_acts.result (λ key is. sound key (subst (λ (r : Result (Unit {0}) OverlayError). Leaves r c.put_acts.new.self (put_acts (declared_in k.first) k.entries c.args.id c.args.there x)) is leaves)) known c.put_acts.ensures.holds c.put_acts.ensures.usable c.put_acts.ensures.cause)

pub returns-clause-faults : goal.returns-clause-faults
returns-clause-faults g c = λ began serves.
    reading_serves (g.H.Host.view began) (g.H.Host.view c.args.self.now.host.now) (g.H.Host.view c.put_acts.new.host) (g.K.Keep.live c.args.self.now.heap.now) (g.K.Keep.live c.put_acts.new.heap) serves c.put_acts.ensures.looks
    c.put_acts.result _ c.read.ensures.is c.put_acts.ensures.usable c.put_acts.ensures.cause
