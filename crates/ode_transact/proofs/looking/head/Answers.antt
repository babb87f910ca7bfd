use Rattle.std.proofs.Common.{◌≡◌, ◌∙◌, IfErr, IfOk, Ok, OnOk, ap, false, subst, sym, true}
use Rattle.std.specs.Option.{option_map}
use Rattle.ode_heap.specs.Answering.{head_of_object}
use Rattle.ode_overlay.specs.Reading.{object}
use Rattle.ode_run.specs.Contexts.{ContextRuns}
use Rattle.ode_run.specs.Knowing.{IsSound, beside}
use Rattle.ode_run.specs.Serving.{LeavesUsable}
use Rattle.ode_transact.proofs.LookLaws.{found_is, found_sound, look_stays, read_usable}
use Rattle.ode_transact.proofs.looking.head.Goals as goal
use Rattle.ode_value.specs.Denoting.{object_at}
use Rattle.ode_value.specs.Worlds.{Bones}

pub returns-clause-is : goal.returns-clause-is
returns-clause-is g c = λ l w t is.
    let ctx = c.args.ctx.now in
    let first = is.world.world.stored.world in
    let known = c.views_read_known.ensures.object first.bones.classes first (beside first ctx.deferred ctx.text ctx.budget) is.entries ctx.overlay is.context.state.known c.args.id in
    subst (λ r. IfOk r (λ found. found ≡ option_map head_of_object (object_at t.now.bones c.args.id))) (sym c.read.ensures.is)
    (found_is c.object.result (object is.entries c.args.id ctx.overlay) (option_map head_of_object (object_at t.now.bones c.args.id)) (c.object.ensures.value is.entries is.context.state.records)
    (known ∙ ap (λ (b : Bones). Ok (option_map head_of_object (object_at b c.args.id))) is.runs.now.stands.bones))

pub returns-clause-stays : goal.returns-clause-stays
returns-clause-stays g c = λ l w t is.
    subst (λ r. OnOk r (ContextRuns g.H.Host.view g.K.Keep.holds g.K.Keep.live l w (record c.args.ctx.now { heap = c.object.new.heap }) c.object.new.host t)) (sym c.read.ensures.is)
    (look_stays g.H.Host.view g.K.Keep.holds g.K.Keep.live l w c.args.ctx.now c.args.host.now t is c.object.new.heap c.object.new.host c.object.result c.object.ensures.holds c.object.ensures.usable)

pub returns-clause-sound : goal.returns-clause-sound
returns-clause-sound g c = λ l w t is.
    let ctx = c.args.ctx.now in
    let first = is.world.world.stored.world in
    let known = c.views_read_known.ensures.object first.bones.classes first (beside first ctx.deferred ctx.text ctx.budget) is.entries ctx.overlay is.context.state.known c.args.id in
    subst (λ r. IfErr r IsSound) (sym c.read.ensures.is)
    (found_sound c.object.result (object is.entries c.args.id ctx.overlay) (option_map head_of_object (object_at t.now.bones c.args.id)) (c.object.ensures.value is.entries is.context.state.records)
    (known ∙ ap (λ (b : Bones). Ok (option_map head_of_object (object_at b c.args.id))) is.runs.now.stands.bones))

pub returns-then-not-live-clause-faults : goal.returns-then-not-live-clause-faults
returns-then-not-live-clause-faults g c = λ usable. let both : true ≡ false = sym usable ∙ sym c.live.ensures ∙ c.if-not-live.true in absurd (cc both)

pub returns-clause-faults : goal.returns-clause-faults
returns-clause-faults g c = λ usable.
    subst (λ r. LeavesUsable r (g.K.Keep.live c.object.new.heap) (g.H.Host.view c.args.host.now) (g.H.Host.view c.object.new.host)) (sym c.read.ensures.is)
    (read_usable c.object.result (g.K.Keep.live c.object.new.heap) (g.H.Host.view c.args.host.now) (g.H.Host.view c.object.new.host) c.object.ensures.usable c.object.ensures.looks c.object.ensures.cause)
