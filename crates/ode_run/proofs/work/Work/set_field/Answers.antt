use Rattle.std.proofs.Common.{sym, subst}
use Rattle.std.specs.Prelude.{List, Result}
use Rattle.ode_interpreter.specs.Seen.{Ends}
use Rattle.ode_interpreter.specs.Seen as interpreter
use Rattle.ode_interpreter.specs.declared.stop.Stop.{Stop}
use Rattle.ode_known_laws.specs.Knowing.{declared_in}
use Rattle.ode_overlay.specs.Answers.{Leaves}
use Rattle.ode_overlay.specs.Changing.{write}
use Rattle.ode_run.proofs.EndLaws.{call_leaves, known_left, shown_ends, shown_sound}
use Rattle.ode_run.proofs.ServeLaws.{call_serves}
use Rattle.ode_run.proofs.work.Work.set_field.Goals as goal
use Rattle.ode_run.specs.Knowing.{Failed, Holds, beside}
use Rattle.ode_value.specs.Acts.{gives}
use Rattle.ode_value.specs.Making.{sets_field}
use Rattle.ode_value.specs.declared.class.Class.{Class}
use Rattle.ode_view_laws.specs.Viewing.{running}

pub returns-clause-acts : goal.returns-clause-acts
returns-clause-acts g c = λ all k same holds.
    let b = beside k.first c.args.self.now.deferred.now c.args.self.now.text.now c.args.self.now.budget.now in
    let x = c.args.self.now.overlay.now in
    let y = running all k.first x b in
    let law = c.writes_known.ensures all k.first b k.entries x holds.known c.args.of c.args.place c.args.v in
    let leaves = subst (λ (cs : List Class). Leaves c.write.result c.write.new.self (write cs k.entries c.args.of c.args.place c.args.v x)) same (c.write.ensures.acts k.entries holds.records) in
    subst (λ (r : Result (Unit {0}) Stop). Ends r (running all k.first c.write.new.self b) (sets_field c.args.of c.args.place c.args.v y)) (sym c.ended.ensures)
    (shown_ends (λ now. running all k.first now b) x c.write.new.self c.write.result (write (declared_in k.first) k.entries c.args.of c.args.place c.args.v x) (sets_field c.args.of c.args.place c.args.v y) leaves c.write.ensures.err law.0)

pub returns-clause-kept : goal.returns-clause-kept
returns-clause-kept g c = λ k same holds.
    let b = beside k.first c.args.self.now.deferred.now c.args.self.now.text.now c.args.self.now.budget.now in
    let x = c.args.self.now.overlay.now in
    let law = c.writes_known.ensures k.first.bones.classes k.first b k.entries x holds.known c.args.of c.args.place c.args.v in
    let leaves = subst (λ (cs : List Class). Leaves c.write.result c.write.new.self (write cs k.entries c.args.of c.args.place c.args.v x)) same (c.write.ensures.acts k.entries holds.records) in
    let known = known_left k.entries k.first x c.write.new.self c.write.result (write (declared_in k.first) k.entries c.args.of c.args.place c.args.v x) leaves c.write.ensures.err holds.known law.1 in
    subst (λ (r : Result (Unit {0}) Stop). interpreter.Leaves r (Holds g.H.Host.view (g.K.Keep.holds c.write.new.heap (g.H.Host.view c.write.new.host)) (g.K.Keep.live c.write.new.heap) c.write.new.host c.write.new.self c.args.self.now.budget.now c.args.self.now.bytes k) (Failed g.H.Host.view c.write.new.host k)) (sym c.ended.ensures)
    (call_leaves g.H.Host.view g.K.Keep.holds g.K.Keep.live c.args.self.now.host.now c.write.new.host c.args.self.now.heap.now c.write.new.heap x c.write.new.self c.args.self.now.budget.now c.args.self.now.bytes k holds c.write.ensures.looks
    c.write.result (shown_sound gives (λ now. running k.first.bones.classes k.first now b) x c.write.new.self c.write.result (write (declared_in k.first) k.entries c.args.of c.args.place c.args.v x) _ leaves law.0) known c.write.ensures.holds c.write.ensures.usable c.write.ensures.cause)

pub returns-clause-faults : goal.returns-clause-faults
returns-clause-faults g c = λ began serves.
    call_serves (g.H.Host.view began) (g.H.Host.view c.args.self.now.host.now) (g.H.Host.view c.write.new.host) (g.K.Keep.live c.args.self.now.heap.now) (g.K.Keep.live c.write.new.heap) serves c.write.ensures.looks
    c.write.result _ c.ended.ensures c.write.ensures.usable c.write.ensures.cause
