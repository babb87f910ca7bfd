use Rattle.std.proofs.Common.{◌∙◌, ap, refl, subst}
use Rattle.ode_interpreter.specs.Seen.{Ends, firing}
use Rattle.ode_interpreter.specs.declared.firing.Firing.{Firing}
use Rattle.ode_run.proofs.ContextLaws.{runs_on, stays_context}
use Rattle.ode_run.proofs.FirstLaws.{firing_stays}
use Rattle.ode_run.proofs.calls.fire_now.Goals as goal
use Rattle.ode_run.specs.Contexts.{tables_in, tables_of, tx_of, tx_over}
use Rattle.ode_run.specs.declared.context.Ctx.{Ctx}
use Rattle.ode_schema.specs.Parts.{Parts, trigger_of}
use Rattle.ode_value.specs.Pasts.{lists, numbers}
use Rattle.ode_run.specs.Knowing.{deferred_as}
use Rattle.ode_value.specs.Executing.{first_actions}
use Rattle.ode_value.specs.Posting.{runs}

pub returns-clause-acts : goal.returns-clause-acts
returns-clause-acts g c = λ entries first context.
    let shown =
    subst (λ (p : Parts). Ends c.fire_now_over.result (tx_over first c.fire_now_over.new.overlay c.fire_now_over.new.deferred c.fire_now_over.new.text c.fire_now_over.new.budget) (runs (first_actions (numbers (tables_in p))) (firing (trigger_of p.classes) c.in_ok-firing.firing) (tx_of first c.args.ctx.now))) c.new-program.ensures
    (c.fire_now_over.ensures.acts entries first (ap (λ (p : Parts). p.classes) c.new-program.ensures ∙ context.classes) context.state) in
    subst (λ (q : Firing). Ends c.fire_now_over.result (tx_over first c.fire_now_over.new.overlay c.fire_now_over.new.deferred c.fire_now_over.new.text c.fire_now_over.new.budget) (runs (first_actions (numbers (tables_of c.args.ctx.now))) (firing (trigger_of c.args.ctx.now.classes) q) (tx_of first c.args.ctx.now))) c.in_ok-firing.ensures
    shown

pub returns-clause-leaves : goal.returns-clause-leaves
returns-clause-leaves g c = λ entries first context.
    let after : Ctx g.row.K.Denot = record { classes = c.args.ctx.now.classes; tables = c.args.ctx.now.tables; alphabets = c.args.ctx.now.alphabets; maps = c.args.ctx.now.maps; heap = c.fire_now_over.new.heap; overlay = c.fire_now_over.new.overlay; deferred = c.fire_now_over.new.deferred; text = c.fire_now_over.new.text; depth = c.args.ctx.now.depth; budget = c.fire_now_over.new.budget; bytes = c.args.ctx.now.bytes } in
    stays_context g.H.Host.view g.K.Keep.holds g.K.Keep.live entries first c.fire_now_over.result (g.H.Host.view c.args.host.now) c.args.ctx.now after c.args.host.now c.fire_now_over.new.host context refl refl
    (c.fire_now_over.ensures.leaves entries first (ap (λ (p : Parts). p.classes) c.new-program.ensures ∙ context.classes) context.state)

pub returns-clause-runs : goal.returns-clause-runs
returns-clause-runs g c = λ l w x is.
    let first = is.world.world.stored.world in
    let after : Ctx g.row.K.Denot = record { classes = c.args.ctx.now.classes; tables = c.args.ctx.now.tables; alphabets = c.args.ctx.now.alphabets; maps = c.args.ctx.now.maps; heap = c.fire_now_over.new.heap; overlay = c.fire_now_over.new.overlay; deferred = c.fire_now_over.new.deferred; text = c.fire_now_over.new.text; depth = c.args.ctx.now.depth; budget = c.fire_now_over.new.budget; bytes = c.args.ctx.now.bytes } in
    runs_on g.H.Host.view g.K.Keep.holds g.K.Keep.live l w c.fire_now_over.result (g.H.Host.view c.args.host.now) c.args.ctx.now after c.args.host.now c.fire_now_over.new.host x
    (runs (first_actions (numbers (tables_of c.args.ctx.now))) (deferred_as c.args.ctx.now.classes (c.args.id, c.args.f.now))) (runs (first_actions lists) (deferred_as c.args.ctx.now.classes (c.args.id, c.args.f.now))) is (c.acts_run_alike.ensures.firing (tables_of c.args.ctx.now) (deferred_as c.args.ctx.now.classes (c.args.id, c.args.f.now))) (firing_stays x (deferred_as c.args.ctx.now.classes (c.args.id, c.args.f.now))) refl
    (returns-clause-acts g c is.entries first is.context) (returns-clause-leaves g c is.entries first is.context)
