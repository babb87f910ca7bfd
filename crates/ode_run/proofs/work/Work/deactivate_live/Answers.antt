use Rattle.std.proofs.Common.{sym, subst}
use Rattle.std.specs.Prelude.{List, Result}
use Rattle.ode_interpreter.specs.Seen.{Ends}
use Rattle.ode_interpreter.specs.Seen as interpreter
use Rattle.std.proofs.Common.{pos}
use Rattle.ode_states.specs.Advance.{no_table}
use Rattle.ode_overlay_laws.specs.Following.{on_live}
use Rattle.ode_value.specs.Pasts.{numbers}
use Rattle.ode_value.specs.Statements.{switches_off_numbered}
use Rattle.ode_value.specs.declared.value.Value.TheVariants as value
use Rattle.ode_interpreter.specs.declared.stop.Stop.{Stop}
use Rattle.ode_known_laws.specs.Knowing.{declared_in}
use Rattle.ode_overlay.specs.Answers.{Leaves}
use Rattle.ode_overlay.specs.Changing.{deactivate}
use Rattle.ode_run.proofs.EndLaws.{call_leaves, known_left, shown_ends, shown_sound}
use Rattle.ode_run.proofs.ServeLaws.{call_serves}
use Rattle.ode_run.proofs.work.Work.deactivate_live.Goals as goal
use Rattle.ode_run.specs.Knowing.{Failed, Holds, beside}
use Rattle.ode_value.specs.Acts.{gives}
use Rattle.ode_value.specs.declared.class.Class.{Class}
use Rattle.ode_view_laws.specs.Viewing.{running}

pub returns-clause-acts : goal.returns-clause-acts
returns-clause-acts g c = λ all k tables same holds.
    let b = beside k.first c.args.self.now.deferred.now c.args.self.now.text.now c.args.self.now.budget.now in
    let x = c.args.self.now.overlay.now in
    let law = c.deactivations_known.ensures all k.first b k.entries x holds.known c.args.of c.args.number tables in
    let leaves = subst (λ (cs : List Class). Leaves c.deactivate.result c.deactivate.new.self (deactivate cs k.entries c.args.of.object c.args.number x)) same (c.deactivate.ensures.acts k.entries holds.records) in
    subst (λ (r : Result (Unit {0}) Stop). Ends r (running all k.first c.deactivate.new.self b) (on_live c.args.of.object (switches_off_numbered (numbers tables) c.args.of (value.Int (pos c.args.number))) (running all k.first x b))) (sym c.ended.ensures)
    (shown_ends (λ now. running all k.first now b) x c.deactivate.new.self c.deactivate.result (deactivate (declared_in k.first) k.entries c.args.of.object c.args.number x) (on_live c.args.of.object (switches_off_numbered (numbers tables) c.args.of (value.Int (pos c.args.number))) (running all k.first x b)) leaves c.deactivate.ensures.err law.0)

pub returns-clause-kept : goal.returns-clause-kept
returns-clause-kept g c = λ k same holds.
    let b = beside k.first c.args.self.now.deferred.now c.args.self.now.text.now c.args.self.now.budget.now in
    let x = c.args.self.now.overlay.now in
    let law = c.deactivations_known.ensures k.first.bones.classes k.first b k.entries x holds.known c.args.of c.args.number (λ c t. no_table) in
    let leaves = subst (λ (cs : List Class). Leaves c.deactivate.result c.deactivate.new.self (deactivate cs k.entries c.args.of.object c.args.number x)) same (c.deactivate.ensures.acts k.entries holds.records) in
    let known = known_left k.entries k.first x c.deactivate.new.self c.deactivate.result (deactivate (declared_in k.first) k.entries c.args.of.object c.args.number x) leaves c.deactivate.ensures.err holds.known law.1 in
    subst (λ (r : Result (Unit {0}) Stop). interpreter.Leaves r (Holds g.H.Host.view (g.K.Keep.holds c.deactivate.new.heap (g.H.Host.view c.deactivate.new.host)) (g.K.Keep.live c.deactivate.new.heap) c.deactivate.new.host c.deactivate.new.self c.args.self.now.budget.now c.args.self.now.bytes k) (Failed g.H.Host.view c.deactivate.new.host k)) (sym c.ended.ensures)
    (call_leaves g.H.Host.view g.K.Keep.holds g.K.Keep.live c.args.self.now.host.now c.deactivate.new.host c.args.self.now.heap.now c.deactivate.new.heap x c.deactivate.new.self c.args.self.now.budget.now c.args.self.now.bytes k holds c.deactivate.ensures.looks
    c.deactivate.result (shown_sound gives (λ now. running k.first.bones.classes k.first now b) x c.deactivate.new.self c.deactivate.result (deactivate (declared_in k.first) k.entries c.args.of.object c.args.number x) _ leaves law.0) known c.deactivate.ensures.holds c.deactivate.ensures.usable c.deactivate.ensures.cause)

pub returns-clause-faults : goal.returns-clause-faults
returns-clause-faults g c = λ began serves.
    call_serves (g.H.Host.view began) (g.H.Host.view c.args.self.now.host.now) (g.H.Host.view c.deactivate.new.host) (g.K.Keep.live c.args.self.now.heap.now) (g.K.Keep.live c.deactivate.new.heap) serves c.deactivate.ensures.looks
    c.deactivate.result _ c.ended.ensures c.deactivate.ensures.usable c.deactivate.ensures.cause
