use Rattle.std.proofs.Common.{◌∙◌, ap, refl, subst}
use Rattle.ode_interpreter.specs.Seen.{Ends}
use Rattle.ode_run.proofs.ContextLaws.{stays_context}
use Rattle.ode_run.proofs.calls.call.Goals as goal
use Rattle.ode_run.specs.Contexts.{tables_in, tx_of, tx_over}
use Rattle.ode_run.specs.declared.context.Ctx.{Ctx}
use Rattle.ode_schema.specs.Parts.{Parts}
use Rattle.ode_value.specs.Pasts.{numbers}
use Rattle.ode_value.specs.Executing.{outermost}
use Rattle.ode_value.specs.Statements.{calls_deeper}

pub returns-clause-acts : goal.returns-clause-acts
returns-clause-acts g c = λ entries first context.
    subst (λ (p : Parts). Ends c.call_over.result (tx_over first c.call_over.new.overlay c.call_over.new.deferred c.call_over.new.text c.call_over.new.budget) (calls_deeper (numbers (tables_in p)) (outermost (numbers (tables_in p))) c.args.of c.args.method.now c.args.args (tx_of first c.args.ctx.now))) c.new-program.ensures
    (c.call_over.ensures.acts entries first (ap (λ (p : Parts). p.classes) c.new-program.ensures ∙ context.classes) context.state)

pub returns-clause-leaves : goal.returns-clause-leaves
returns-clause-leaves g c = λ entries first context.
    let after : Ctx g.row.K.Denot = record { classes = c.args.ctx.now.classes; tables = c.args.ctx.now.tables; alphabets = c.args.ctx.now.alphabets; maps = c.args.ctx.now.maps; heap = c.call_over.new.heap; overlay = c.call_over.new.overlay; deferred = c.call_over.new.deferred; text = c.call_over.new.text; depth = c.args.ctx.now.depth; budget = c.call_over.new.budget; bytes = c.args.ctx.now.bytes } in
    stays_context g.H.Host.view g.K.Keep.holds g.K.Keep.live entries first c.call_over.result (g.H.Host.view c.args.host.now) c.args.ctx.now after c.args.host.now c.call_over.new.host context refl refl
    (c.call_over.ensures.leaves entries first (ap (λ (p : Parts). p.classes) c.new-program.ensures ∙ context.classes) context.state)
