use Rattle.std.proofs.Common.{◌∙◌, ap, refl, subst}
use Rattle.ode_interpreter.specs.Seen.{Ends}
use Rattle.ode_run.proofs.ContextLaws.{runs_on, stays_context}
use Rattle.ode_run.proofs.FirstLaws.{statement_stays}
use Rattle.ode_run.proofs.calls.exec.Goals as goal
use Rattle.ode_run.specs.Contexts.{tables_in, tables_of, tx_of, tx_over}
use Rattle.ode_run.specs.declared.context.Ctx.{Ctx}
use Rattle.ode_schema.specs.Parts.{Parts}
use Rattle.ode_value.specs.Pasts.{lists, numbers}
use Rattle.ode_value.specs.Executing.{commands}

pub returns-clause-acts : goal.returns-clause-acts
returns-clause-acts g c = λ entries first context.
    subst (λ (p : Parts). Ends c.exec_over.result (tx_over first c.exec_over.new.overlay c.exec_over.new.deferred c.exec_over.new.text c.exec_over.new.budget) (commands (numbers (tables_in p)) c.args.s.now (tx_of first c.args.ctx.now))) c.new-program.ensures
    (c.exec_over.ensures.acts entries first (ap (λ (p : Parts). p.classes) c.new-program.ensures ∙ context.classes) context.state)

pub returns-clause-leaves : goal.returns-clause-leaves
returns-clause-leaves g c = λ entries first context.
    let after : Ctx g.row.K.Denot = record { classes = c.args.ctx.now.classes; tables = c.args.ctx.now.tables; alphabets = c.args.ctx.now.alphabets; maps = c.args.ctx.now.maps; heap = c.exec_over.new.heap; overlay = c.exec_over.new.overlay; deferred = c.exec_over.new.deferred; text = c.exec_over.new.text; depth = c.args.ctx.now.depth; budget = c.exec_over.new.budget; bytes = c.args.ctx.now.bytes } in
    stays_context g.H.Host.view g.K.Keep.holds g.K.Keep.live entries first c.exec_over.result (g.H.Host.view c.args.host.now) c.args.ctx.now after c.args.host.now c.exec_over.new.host context refl refl
    (c.exec_over.ensures.leaves entries first (ap (λ (p : Parts). p.classes) c.new-program.ensures ∙ context.classes) context.state)

pub returns-clause-runs : goal.returns-clause-runs
returns-clause-runs g c = λ l w x is.
    let first = is.world.world.stored.world in
    let after : Ctx g.row.K.Denot = record { classes = c.args.ctx.now.classes; tables = c.args.ctx.now.tables; alphabets = c.args.ctx.now.alphabets; maps = c.args.ctx.now.maps; heap = c.exec_over.new.heap; overlay = c.exec_over.new.overlay; deferred = c.exec_over.new.deferred; text = c.exec_over.new.text; depth = c.args.ctx.now.depth; budget = c.exec_over.new.budget; bytes = c.args.ctx.now.bytes } in
    runs_on g.H.Host.view g.K.Keep.holds g.K.Keep.live l w c.exec_over.result (g.H.Host.view c.args.host.now) c.args.ctx.now after c.args.host.now c.exec_over.new.host x
    (commands (numbers (tables_of c.args.ctx.now)) c.args.s.now) (commands lists c.args.s.now) is (c.acts_run_alike.ensures.statement (tables_of c.args.ctx.now) c.args.s.now) (statement_stays x c.args.s.now) refl
    (returns-clause-acts g c is.entries first is.context) (returns-clause-leaves g c is.entries first is.context)
