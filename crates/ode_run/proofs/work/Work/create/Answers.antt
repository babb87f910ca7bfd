use Rattle.std.proofs.Common.{sym, subst, ◌∙◌, ap}
use Rattle.std.specs.Prelude.{Result, ℕ}
use Rattle.ode_interpreter.specs.Seen as interpreter
use Rattle.ode_interpreter.specs.declared.stop.Stop.{Stop}
use Rattle.ode_overlay.specs.Changing.{create}
use Rattle.ode_overlay.specs.declared.error.OverlayError.{OverlayError}
use Rattle.ode_overlay_laws.specs.Following.{tells_new}
use Rattle.ode_run.proofs.EndLaws.{calm_drawn, calm_leaves, drawn_sound, known_drawn}
use Rattle.ode_run.proofs.ServeLaws.{making_serves}
use Rattle.ode_run.proofs.work.Work.create.Goals as goal
use Rattle.ode_run.specs.Knowing.{Failed, Holds, beside}
use Rattle.ode_run.specs.Stopping.{ended}
use Rattle.ode_run.specs.Telling.{EndsThen}
use Rattle.ode_states.specs.Advance.{no_table}
use Rattle.ode_value.specs.Making.{makes}
use Rattle.ode_value.specs.Pasts.{numbers}
use Rattle.ode_view_laws.specs.Viewing.{running}

pub returns-clause-acts : goal.returns-clause-acts
returns-clause-acts g c = λ all k tables same holds.
    let b = beside k.first c.args.self.now.deferred.now c.args.self.now.text.now c.args.self.now.budget.now in
    let x = c.args.self.now.overlay.now in
    let law = c.makings_known.ensures all k.first b k.entries x holds.known tables c.args.class c.args.fields in
    subst (λ (r : Result ℕ Stop). EndsThen tells_new r (running all k.first c.create.new.self b) (makes (numbers tables) c.args.class c.args.fields (running all k.first x b)))
    (sym (c.ended.ensures ∙ ap (λ (r : Result ℕ OverlayError). ended r) c.calm.ensures))
    (calm_drawn tells_new (λ now. running all k.first now b) x c.create.new.self c.create.result (create c.args.class c.args.fields x) (makes (numbers tables) c.args.class c.args.fields (running all k.first x b)) c.create.ensures.acts c.create.ensures.err law.0)

pub returns-clause-kept : goal.returns-clause-kept
returns-clause-kept g c = λ k same holds.
    let b = beside k.first c.args.self.now.deferred.now c.args.self.now.text.now c.args.self.now.budget.now in
    let x = c.args.self.now.overlay.now in
    let law = c.makings_known.ensures k.first.bones.classes k.first b k.entries x holds.known (λ c t. no_table) c.args.class c.args.fields in
    let known = known_drawn k.entries k.first x c.create.new.self c.create.result (create c.args.class c.args.fields x) c.create.ensures.acts c.create.ensures.err holds.known law.1 in
    subst (λ (r : Result ℕ Stop). interpreter.Leaves r (Holds g.H.Host.view (g.K.Keep.holds c.create.new._heap (g.H.Host.view c.create.new._host)) (g.K.Keep.live c.create.new._heap) c.create.new._host c.create.new.self c.args.self.now.budget.now c.args.self.now.bytes k) (Failed g.H.Host.view c.create.new._host k))
    (sym (c.ended.ensures ∙ ap (λ (r : Result ℕ OverlayError). ended r) c.calm.ensures))
    (calm_leaves g.H.Host.view g.K.Keep.holds g.K.Keep.live c.args.self.now.host.now c.create.new._host c.args.self.now.heap.now c.create.new._heap x c.create.new.self c.args.self.now.budget.now c.args.self.now.bytes k c.create.result (drawn_sound tells_new (λ now. running k.first.bones.classes k.first now b) x c.create.new.self c.create.result (create c.args.class c.args.fields x) _ c.create.ensures.acts law.0) c.create.ensures.heap c.create.ensures.host holds known)

pub returns-clause-faults : goal.returns-clause-faults
returns-clause-faults g c = λ began serves.
    making_serves g.H.Host.view g.K.Keep.live (g.H.Host.view began) c.args.self.now.host.now c.create.new._host c.args.self.now.heap.now c.create.new._heap c.create.result _
    (c.ended.ensures ∙ ap (λ (r : Result ℕ OverlayError). ended r) c.calm.ensures) c.create.ensures.heap c.create.ensures.host serves
