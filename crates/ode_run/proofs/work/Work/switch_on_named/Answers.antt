use Rattle.std.proofs.Common.{sym, subst, ◌∙◌}
use Rattle.std.specs.Prelude.{List, Result, ℕ}
use Rattle.ode_interpreter.specs.Seen as interpreter
use Rattle.ode_activation_laws.specs.Switching.{tells_value}
use Rattle.ode_run.specs.Activating.{trigger_at}
use Rattle.ode_run.specs.Telling.{EndsThen}
use Rattle.ode_states.specs.Advance.{no_table}
use Rattle.ode_value.specs.Pasts.{numbers}
use Rattle.ode_value.specs.Statements.{switches_on_named}
use Rattle.ode_interpreter.specs.declared.stop.Stop.{Stop}
use Rattle.ode_known_laws.specs.Knowing.{declared_in}
use Rattle.ode_overlay.specs.Answers.{Leaves}
use Rattle.ode_overlay.specs.Changing.{activate}
use Rattle.ode_run.proofs.EndLaws.{call_leaves, drawn_sound, drawn_then, known_drawn}
use Rattle.ode_run.proofs.MakeLaws.{named_there}
use Rattle.ode_run.proofs.ServeLaws.{call_serves}
use Rattle.ode_run.proofs.work.Work.switch_on_named.Goals as goal
use Rattle.ode_run.specs.Knowing.{Failed, Holds, beside}
use Rattle.ode_value.specs.declared.class.Class.{Class}
use Rattle.ode_view_laws.specs.Viewing.{running}

pub returns-clause-acts : goal.returns-clause-acts
returns-clause-acts g c = λ all k tables name decl are same holds names.
    let t = trigger_at c.args.t decl in
    let b = beside k.first c.args.self.now.deferred.now c.args.self.now.text.now c.args.self.now.budget.now in
    let x = c.args.self.now.overlay.now in
    let law = c.activations_known.ensures.named all k.first b k.entries x holds.known c.args.of tables names.object name t c.args.args names.there names.trigger (c.triggers_are_taken.ensures.named all k.first.bones.classes (are ∙ same) names.object.class name t (named_there all k.first x b names.object.class name t names.trigger)) in
    let leaves = subst (λ (cs : List Class). Leaves c.activate.result c.activate.new.self (activate cs k.entries c.args.of.object c.args.t.class c.args.t.place c.args.args x)) same (c.activate.ensures.acts k.entries holds.records) in
    subst (λ (r : Result ℕ Stop). EndsThen tells_value r (running all k.first c.activate.new.self b) (switches_on_named (numbers tables) c.args.of name c.args.args (running all k.first x b))) (sym c.ended.ensures)
    (drawn_then tells_value (λ now. running all k.first now b) x c.activate.new.self c.activate.result (activate (declared_in k.first) k.entries c.args.of.object c.args.t.class c.args.t.place c.args.args x) (switches_on_named (numbers tables) c.args.of name c.args.args (running all k.first x b)) leaves c.activate.ensures.err law.0)

pub returns-clause-kept : goal.returns-clause-kept
returns-clause-kept g c = λ all k name decl are same holds names.
    let t = trigger_at c.args.t decl in
    let b = beside k.first c.args.self.now.deferred.now c.args.self.now.text.now c.args.self.now.budget.now in
    let x = c.args.self.now.overlay.now in
    let law = c.activations_known.ensures.named all k.first b k.entries x holds.known c.args.of (λ c t. no_table) names.object name t c.args.args names.there names.trigger (c.triggers_are_taken.ensures.named all k.first.bones.classes (are ∙ same) names.object.class name t (named_there all k.first x b names.object.class name t names.trigger)) in
    let leaves = subst (λ (cs : List Class). Leaves c.activate.result c.activate.new.self (activate cs k.entries c.args.of.object c.args.t.class c.args.t.place c.args.args x)) same (c.activate.ensures.acts k.entries holds.records) in
    let known = known_drawn k.entries k.first x c.activate.new.self c.activate.result (activate (declared_in k.first) k.entries c.args.of.object c.args.t.class c.args.t.place c.args.args x) leaves c.activate.ensures.err holds.known law.1 in
    subst (λ (r : Result ℕ Stop). interpreter.Leaves r (Holds g.H.Host.view (g.K.Keep.holds c.activate.new.heap (g.H.Host.view c.activate.new.host)) (g.K.Keep.live c.activate.new.heap) c.activate.new.host c.activate.new.self c.args.self.now.budget.now c.args.self.now.bytes k) (Failed g.H.Host.view c.activate.new.host k)) (sym c.ended.ensures)
    (call_leaves g.H.Host.view g.K.Keep.holds g.K.Keep.live c.args.self.now.host.now c.activate.new.host c.args.self.now.heap.now c.activate.new.heap x c.activate.new.self c.args.self.now.budget.now c.args.self.now.bytes k holds c.activate.ensures.looks
    c.activate.result (drawn_sound tells_value (λ now. running all k.first now b) x c.activate.new.self c.activate.result (activate (declared_in k.first) k.entries c.args.of.object c.args.t.class c.args.t.place c.args.args x) _ leaves law.0) known c.activate.ensures.holds c.activate.ensures.usable c.activate.ensures.cause)

pub returns-clause-faults : goal.returns-clause-faults
returns-clause-faults g c = λ began serves.
    call_serves (g.H.Host.view began) (g.H.Host.view c.args.self.now.host.now) (g.H.Host.view c.activate.new.host) (g.K.Keep.live c.args.self.now.heap.now) (g.K.Keep.live c.activate.new.heap) serves c.activate.ensures.looks
    c.activate.result _ c.ended.ensures c.activate.ensures.usable c.activate.ensures.cause
