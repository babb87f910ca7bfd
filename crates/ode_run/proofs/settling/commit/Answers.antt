use Rattle.std.proofs.Common.{◌≡◌, ◌∙◌, IfOk, ap, refl, subst, true}
use Rattle.ode_run.proofs.ContextLaws.{stays_context}
use Rattle.ode_run.proofs.settling.commit.Goals as goal
use Rattle.ode_run.specs.Contexts.{tables_in, tx_of, tx_over}
use Rattle.ode_run.specs.Ending.{last_points}
use Rattle.ode_run.specs.declared.context.Ctx.{Ctx}
use Rattle.ode_schema.specs.Parts.{Parts}

pub returns-clause-acts : goal.returns-clause-acts
returns-clause-acts g c = λ entries first context.
    subst (λ (p : Parts). IfOk c.commit_over.result (λ _. tx_over first c.commit_over.new.overlay c.commit_over.new.deferred c.commit_over.new.text c.commit_over.new.budget ≡ last_points (tables_in p) true (tx_of first c.args.ctx.now))) c.new-program.ensures
    (c.commit_over.ensures.acts entries first (ap (λ (p : Parts). p.classes) c.new-program.ensures ∙ context.classes) context.state)

pub returns-clause-leaves : goal.returns-clause-leaves
returns-clause-leaves g c = λ entries first context.
    let after : Ctx g.row.K.Denot = record { classes = c.args.ctx.now.classes; tables = c.args.ctx.now.tables; alphabets = c.args.ctx.now.alphabets; maps = c.args.ctx.now.maps; heap = c.commit_over.new.heap; overlay = c.commit_over.new.overlay; deferred = c.commit_over.new.deferred; text = c.commit_over.new.text; depth = c.args.ctx.now.depth; budget = c.commit_over.new.budget; bytes = c.args.ctx.now.bytes } in
    stays_context g.H.Host.view g.K.Keep.holds g.K.Keep.live entries first c.commit_over.result (g.H.Host.view c.args.host.now) c.args.ctx.now after c.args.host.now c.commit_over.new.host context refl refl
    (c.commit_over.ensures.leaves entries first (ap (λ (p : Parts). p.classes) c.new-program.ensures ∙ context.classes) context.state)
