use Rattle.std.proofs.Common.{◌∙◌, ap, refl, subst}
use Rattle.ode_interpreter.specs.Seen.{Ends}
use Rattle.ode_run.proofs.ContextLaws.{runs_on, stays_context}
use Rattle.ode_run.proofs.FirstLaws.{completion_stays}
use Rattle.ode_run.proofs.calls.complete.Goals as goal
use Rattle.ode_run.specs.Contexts.{tables_in, tables_of, tx_of, tx_over}
use Rattle.ode_run.specs.declared.context.Ctx.{Ctx}
use Rattle.ode_schema.specs.Parts.{Parts}
use Rattle.ode_value.specs.Pasts.{lists, numbers}
use Rattle.ode_value.specs.Completing.{completes}

pub returns-clause-acts : goal.returns-clause-acts
returns-clause-acts g c = λ entries first context.
    subst (λ (p : Parts). Ends c.complete_over.result (tx_over first c.complete_over.new.overlay c.complete_over.new.deferred c.complete_over.new.text c.complete_over.new.budget) (completes (numbers (tables_in p)) (tx_of first c.args.ctx.now))) c.new-program.ensures
    (c.complete_over.ensures.acts entries first (ap (λ (p : Parts). p.classes) c.new-program.ensures ∙ context.classes) context.state)

pub returns-clause-leaves : goal.returns-clause-leaves
returns-clause-leaves g c = λ entries first context.
    let after : Ctx g.row.K.Denot = record { classes = c.args.ctx.now.classes; tables = c.args.ctx.now.tables; alphabets = c.args.ctx.now.alphabets; maps = c.args.ctx.now.maps; heap = c.complete_over.new.heap; overlay = c.complete_over.new.overlay; deferred = c.complete_over.new.deferred; text = c.complete_over.new.text; depth = c.args.ctx.now.depth; budget = c.complete_over.new.budget; bytes = c.args.ctx.now.bytes } in
    stays_context g.H.Host.view g.K.Keep.holds g.K.Keep.live entries first c.complete_over.result (g.H.Host.view c.args.host.now) c.args.ctx.now after c.args.host.now c.complete_over.new.host context refl refl
    (c.complete_over.ensures.leaves entries first (ap (λ (p : Parts). p.classes) c.new-program.ensures ∙ context.classes) context.state)

pub returns-clause-runs : goal.returns-clause-runs
returns-clause-runs g c = λ l w x is.
    let first = is.world.world.stored.world in
    let after : Ctx g.row.K.Denot = record { classes = c.args.ctx.now.classes; tables = c.args.ctx.now.tables; alphabets = c.args.ctx.now.alphabets; maps = c.args.ctx.now.maps; heap = c.complete_over.new.heap; overlay = c.complete_over.new.overlay; deferred = c.complete_over.new.deferred; text = c.complete_over.new.text; depth = c.args.ctx.now.depth; budget = c.complete_over.new.budget; bytes = c.args.ctx.now.bytes } in
    runs_on g.H.Host.view g.K.Keep.holds g.K.Keep.live l w c.complete_over.result (g.H.Host.view c.args.host.now) c.args.ctx.now after c.args.host.now c.complete_over.new.host x
    (completes (numbers (tables_of c.args.ctx.now))) (completes lists) is (c.acts_run_alike.ensures.completion (tables_of c.args.ctx.now)) (completion_stays x) refl
    (returns-clause-acts g c is.entries first is.context) (returns-clause-leaves g c is.entries first is.context)
