use Rattle.std.proofs.Common.{◌≡◌, ◌∙◌, ap, refl, subst, sym, true}
use Rattle.std.specs.Prelude.{List, ℕ}
use Rattle.ode_interpreter.specs.Seen.{Ends}
use Rattle.ode_run.proofs.ContextLaws.{runs_on, stays_context}
use Rattle.ode_run.proofs.FirstLaws.{point_stays}
use Rattle.ode_run.proofs.calls.post.Goals as goal
use Rattle.ode_run.specs.Contexts.{tables_in, tables_of, tx_of, tx_over}
use Rattle.ode_run.specs.declared.context.Ctx.{Ctx}
use Rattle.ode_schema.specs.Parts.{Parts}
use Rattle.ode_value.specs.Pasts.{lists, numbers}
use Rattle.ode_value.specs.Executing.{first_actions}
use Rattle.ode_value.specs.Posting.{is_touched, posts}

pub returns-clause-acts : goal.returns-clause-acts
returns-clause-acts g c = λ entries first context touched.
    subst (λ (p : Parts). Ends c.post_over.result (tx_over first c.post_over.new.overlay c.post_over.new.deferred c.post_over.new.text c.post_over.new.budget) (posts (numbers (tables_in p)) (first_actions (numbers (tables_in p))) c.args.id c.args.kind.now c.args.args.now (tx_of first c.args.ctx.now))) c.new-program.ensures
    (c.post_over.ensures.acts entries first (ap (λ (p : Parts). p.classes) c.new-program.ensures ∙ context.classes) context.state touched)

pub returns-clause-leaves : goal.returns-clause-leaves
returns-clause-leaves g c = λ entries first context.
    let after : Ctx g.row.K.Denot = record { classes = c.args.ctx.now.classes; tables = c.args.ctx.now.tables; alphabets = c.args.ctx.now.alphabets; maps = c.args.ctx.now.maps; heap = c.post_over.new.heap; overlay = c.post_over.new.overlay; deferred = c.post_over.new.deferred; text = c.post_over.new.text; depth = c.args.ctx.now.depth; budget = c.post_over.new.budget; bytes = c.args.ctx.now.bytes } in
    stays_context g.H.Host.view g.K.Keep.holds g.K.Keep.live entries first c.post_over.result (g.H.Host.view c.args.host.now) c.args.ctx.now after c.args.host.now c.post_over.new.host context refl refl
    (c.post_over.ensures.leaves entries first (ap (λ (p : Parts). p.classes) c.new-program.ensures ∙ context.classes) context.state)

pub returns-clause-runs : goal.returns-clause-runs
returns-clause-runs g c = λ l w x is touched.
    let first = is.world.world.stored.world in
    let there : is_touched c.args.id (tx_of first c.args.ctx.now) ≡ true = subst (λ (ts : List ℕ). is_touched c.args.id (record (tx_of first c.args.ctx.now) { touched = ts }) ≡ true) (sym is.runs.touched) touched in
    let after : Ctx g.row.K.Denot = record { classes = c.args.ctx.now.classes; tables = c.args.ctx.now.tables; alphabets = c.args.ctx.now.alphabets; maps = c.args.ctx.now.maps; heap = c.post_over.new.heap; overlay = c.post_over.new.overlay; deferred = c.post_over.new.deferred; text = c.post_over.new.text; depth = c.args.ctx.now.depth; budget = c.post_over.new.budget; bytes = c.args.ctx.now.bytes } in
    runs_on g.H.Host.view g.K.Keep.holds g.K.Keep.live l w c.post_over.result (g.H.Host.view c.args.host.now) c.args.ctx.now after c.args.host.now c.post_over.new.host x
    (posts (numbers (tables_of c.args.ctx.now)) (first_actions (numbers (tables_of c.args.ctx.now))) c.args.id c.args.kind.now c.args.args.now) (posts lists (first_actions lists) c.args.id c.args.kind.now c.args.args.now) is (c.acts_run_alike.ensures.point (tables_of c.args.ctx.now) c.args.id c.args.kind.now c.args.args.now) (point_stays x c.args.id c.args.kind.now c.args.args.now) refl
    (returns-clause-acts g c is.entries first is.context there) (returns-clause-leaves g c is.entries first is.context)
