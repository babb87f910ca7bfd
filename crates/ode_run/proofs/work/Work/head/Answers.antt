use Rattle.std.proofs.Common.{◌≡◌, sym, subst}
use Rattle.std.specs.Prelude.{IfOk, Option, Result}
use Rattle.std.specs.Option.{option_map}
use Rattle.ode_heap.specs.Answering.{head_of_object}
use Rattle.ode_heap.specs.declared.object.ObjectHead.{ObjectHead}
use Rattle.ode_interpreter.specs.Seen as interpreter
use Rattle.ode_interpreter.specs.declared.stop.Stop.{Stop}
use Rattle.ode_overlay.specs.Reading.{object}
use Rattle.ode_run.proofs.EndLaws.{read_is, read_sound, reading_leaves}
use Rattle.ode_run.proofs.ServeLaws.{reading_serves}
use Rattle.ode_run.proofs.work.Work.head.Goals as goal
use Rattle.ode_run.specs.Knowing.{Failed, Holds, beside}
use Rattle.ode_value.specs.Denoting.{object_at}
use Rattle.ode_view_laws.specs.Viewing.{running}

pub returns-clause-value : goal.returns-clause-value
returns-clause-value g c = λ all k same holds.
    let b = beside k.first c.args.self.now.deferred.now c.args.self.now.text.now c.args.self.now.budget.now in
    let x = c.args.self.now.overlay.now in
    let head : Option ObjectHead = option_map head_of_object (object_at (running all k.first x b).now.bones c.args.id) in
    subst (λ (r : Result (Option ObjectHead) Stop). IfOk r (λ found. found ≡ head)) (sym c.read.ensures.is)
    (read_is c.object.result (object k.entries c.args.id x) head (c.object.ensures.value k.entries holds.records)
    (c.views_read_known.ensures.object all k.first b k.entries x holds.known c.args.id))

pub returns-clause-kept : goal.returns-clause-kept
returns-clause-kept g c = λ k same holds.
    let b = beside k.first c.args.self.now.deferred.now c.args.self.now.text.now c.args.self.now.budget.now in
    let x = c.args.self.now.overlay.now in
    let there = c.views_read_known.ensures.object k.first.bones.classes k.first b k.entries x holds.known c.args.id in
    subst (λ (r : Result (Option ObjectHead) Stop). interpreter.Leaves r (Holds g.H.Host.view (g.K.Keep.holds c.object.new.heap (g.H.Host.view c.object.new.host)) (g.K.Keep.live c.object.new.heap) c.object.new.host x c.args.self.now.budget.now c.args.self.now.bytes k) (Failed g.H.Host.view c.object.new.host k)) (sym c.read.ensures.is)
    (reading_leaves g.H.Host.view g.K.Keep.holds g.K.Keep.live c.args.self.now.host.now c.object.new.host c.args.self.now.heap.now c.object.new.heap x x c.args.self.now.budget.now c.args.self.now.bytes k holds c.object.ensures.looks
    c.object.result (read_sound c.object.result (object k.entries c.args.id x) (c.object.ensures.value k.entries holds.records) (λ key is. cc (there, is))) holds.known c.object.ensures.holds c.object.ensures.usable c.object.ensures.cause)

pub returns-clause-faults : goal.returns-clause-faults
returns-clause-faults g c = λ began serves.
    reading_serves (g.H.Host.view began) (g.H.Host.view c.args.self.now.host.now) (g.H.Host.view c.object.new.host) (g.K.Keep.live c.args.self.now.heap.now) (g.K.Keep.live c.object.new.heap) serves c.object.ensures.looks
    c.object.result _ c.read.ensures.is c.object.ensures.usable c.object.ensures.cause
