use Rattle.std.proofs.Common.{sym, subst}
use Rattle.std.specs.Prelude.{List, Result, Bool}
use Rattle.ode_interpreter.specs.Seen.{Ends}
use Rattle.ode_interpreter.specs.Seen as interpreter
use Rattle.ode_interpreter.specs.Touching.{joins_there}
use Rattle.ode_interpreter.specs.declared.stop.Stop.{Stop}
use Rattle.ode_known_laws.specs.Knowing.{declared_in}
use Rattle.ode_overlay.specs.Answers.{Leaves}
use Rattle.ode_overlay.specs.Changing.{touch}
use Rattle.ode_run.proofs.EndLaws.{call_leaves, known_left, shown_ends, shown_sound}
use Rattle.ode_run.proofs.ServeLaws.{call_serves}
use Rattle.ode_run.proofs.work.Work.join_there.Goals as goal
use Rattle.ode_run.specs.Knowing.{Failed, Holds, beside}
use Rattle.ode_value.specs.Acts.{gives}
use Rattle.ode_value.specs.declared.class.Class.{Class}
use Rattle.ode_view_laws.specs.Viewing.{running}

pub returns-clause-acts : goal.returns-clause-acts
returns-clause-acts g c = λ all k same holds.
    let b = beside k.first c.args.self.now.deferred.now c.args.self.now.text.now c.args.self.now.budget.now in
    let x = c.args.self.now.overlay.now in
    let law = c.touches_known.ensures all k.first b k.entries x holds.known c.args.id in
    let leaves = subst (λ (cs : List Class). Leaves c.touch.result c.touch.new.self (touch cs k.entries c.args.id x)) same (c.touch.ensures.acts k.entries holds.records) in
    subst (λ (r : Result Bool Stop). Ends r (running all k.first c.touch.new.self b) (joins_there c.args.id (running all k.first x b))) (sym c.ended.ensures)
    (shown_ends (λ now. running all k.first now b) x c.touch.new.self c.touch.result (touch (declared_in k.first) k.entries c.args.id x) (joins_there c.args.id (running all k.first x b)) leaves c.touch.ensures.err law.0)

pub returns-clause-kept : goal.returns-clause-kept
returns-clause-kept g c = λ k same holds.
    let b = beside k.first c.args.self.now.deferred.now c.args.self.now.text.now c.args.self.now.budget.now in
    let x = c.args.self.now.overlay.now in
    let law = c.touches_known.ensures k.first.bones.classes k.first b k.entries x holds.known c.args.id in
    let leaves = subst (λ (cs : List Class). Leaves c.touch.result c.touch.new.self (touch cs k.entries c.args.id x)) same (c.touch.ensures.acts k.entries holds.records) in
    let known = known_left k.entries k.first x c.touch.new.self c.touch.result (touch (declared_in k.first) k.entries c.args.id x) leaves c.touch.ensures.err holds.known law.1 in
    subst (λ (r : Result Bool Stop). interpreter.Leaves r (Holds g.H.Host.view (g.K.Keep.holds c.touch.new.heap (g.H.Host.view c.touch.new.host)) (g.K.Keep.live c.touch.new.heap) c.touch.new.host c.touch.new.self c.args.self.now.budget.now c.args.self.now.bytes k) (Failed g.H.Host.view c.touch.new.host k)) (sym c.ended.ensures)
    (call_leaves g.H.Host.view g.K.Keep.holds g.K.Keep.live c.args.self.now.host.now c.touch.new.host c.args.self.now.heap.now c.touch.new.heap x c.touch.new.self c.args.self.now.budget.now c.args.self.now.bytes k holds c.touch.ensures.looks
    c.touch.result (shown_sound gives (λ now. running k.first.bones.classes k.first now b) x c.touch.new.self c.touch.result (touch (declared_in k.first) k.entries c.args.id x) _ leaves law.0) known c.touch.ensures.holds c.touch.ensures.usable c.touch.ensures.cause)

pub returns-clause-faults : goal.returns-clause-faults
returns-clause-faults g c = λ began serves.
    call_serves (g.H.Host.view began) (g.H.Host.view c.args.self.now.host.now) (g.H.Host.view c.touch.new.host) (g.K.Keep.live c.args.self.now.heap.now) (g.K.Keep.live c.touch.new.heap) serves c.touch.ensures.looks
    c.touch.result _ c.ended.ensures c.touch.ensures.usable c.touch.ensures.cause
