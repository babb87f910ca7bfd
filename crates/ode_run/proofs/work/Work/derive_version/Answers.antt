use Rattle.std.proofs.Common.{sym, subst}
use Rattle.std.specs.Prelude.{List, Result}
use Rattle.ode_interpreter.specs.Seen as interpreter
use Rattle.ode_interpreter.specs.declared.stop.Stop.{Stop}
use Rattle.ode_known_laws.specs.Knowing.{declared_in}
use Rattle.ode_overlay.specs.Answers.{Leaves}
use Rattle.ode_overlay.specs.Changing.{derive}
use Rattle.ode_run.proofs.EndLaws.{call_leaves, known_left, shown_sound, shown_then}
use Rattle.ode_run.proofs.ServeLaws.{call_serves}
use Rattle.ode_run.proofs.work.Work.derive_version.Goals as goal
use Rattle.ode_run.specs.Knowing.{Failed, Holds, beside}
use Rattle.ode_run.specs.Telling.{EndsThen}
use Rattle.ode_value.specs.Making.{derives}
use Rattle.ode_value.specs.declared.class.Class.{Class}
use Rattle.ode_value.specs.declared.value.Ref.{Ref}
use Rattle.ode_version_laws.specs.Denoting.{tells_version}
use Rattle.ode_view_laws.specs.Viewing.{running}

pub returns-clause-acts : goal.returns-clause-acts
returns-clause-acts g c = λ all k same holds.
    let b = beside k.first c.args.self.now.deferred.now c.args.self.now.text.now c.args.self.now.budget.now in
    let x = c.args.self.now.overlay.now in
    let law = c.derivations_known.ensures all k.first b k.entries x holds.known c.args.of in
    let leaves = subst (λ (cs : List Class). Leaves c.derive.result c.derive.new.self (derive cs k.entries c.args.of x)) same (c.derive.ensures.acts k.entries holds.records) in
    subst (λ (r : Result Ref Stop). EndsThen tells_version r (running all k.first c.derive.new.self b) (derives c.args.of (running all k.first x b))) (sym c.ended.ensures)
    (shown_then tells_version (λ now. running all k.first now b) x c.derive.new.self c.derive.result (derive (declared_in k.first) k.entries c.args.of x) (derives c.args.of (running all k.first x b)) leaves c.derive.ensures.err law.0)

pub returns-clause-kept : goal.returns-clause-kept
returns-clause-kept g c = λ k same holds.
    let b = beside k.first c.args.self.now.deferred.now c.args.self.now.text.now c.args.self.now.budget.now in
    let x = c.args.self.now.overlay.now in
    let law = c.derivations_known.ensures k.first.bones.classes k.first b k.entries x holds.known c.args.of in
    let leaves = subst (λ (cs : List Class). Leaves c.derive.result c.derive.new.self (derive cs k.entries c.args.of x)) same (c.derive.ensures.acts k.entries holds.records) in
    let known = known_left k.entries k.first x c.derive.new.self c.derive.result (derive (declared_in k.first) k.entries c.args.of x) leaves c.derive.ensures.err holds.known law.1 in
    subst (λ (r : Result Ref Stop). interpreter.Leaves r (Holds g.H.Host.view (g.K.Keep.holds c.derive.new.heap (g.H.Host.view c.derive.new.host)) (g.K.Keep.live c.derive.new.heap) c.derive.new.host c.derive.new.self c.args.self.now.budget.now c.args.self.now.bytes k) (Failed g.H.Host.view c.derive.new.host k)) (sym c.ended.ensures)
    (call_leaves g.H.Host.view g.K.Keep.holds g.K.Keep.live c.args.self.now.host.now c.derive.new.host c.args.self.now.heap.now c.derive.new.heap x c.derive.new.self c.args.self.now.budget.now c.args.self.now.bytes k holds c.derive.ensures.looks
    c.derive.result (shown_sound tells_version (λ now. running k.first.bones.classes k.first now b) x c.derive.new.self c.derive.result (derive (declared_in k.first) k.entries c.args.of x) _ leaves law.0) known c.derive.ensures.holds c.derive.ensures.usable c.derive.ensures.cause)

pub returns-clause-faults : goal.returns-clause-faults
returns-clause-faults g c = λ began serves.
    call_serves (g.H.Host.view began) (g.H.Host.view c.args.self.now.host.now) (g.H.Host.view c.derive.new.host) (g.K.Keep.live c.args.self.now.heap.now) (g.K.Keep.live c.derive.new.heap) serves c.derive.ensures.looks
    c.derive.result _ c.ended.ensures c.derive.ensures.usable c.derive.ensures.cause
