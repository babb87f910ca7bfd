use Rattle.std.proofs.Common.{◌≡◌, Bool, IfOk, subst, sym}
use Rattle.ode_run.proofs.settling.end.Goals as goal
use Rattle.ode_run.specs.Contexts.{tables_of, tx_of}
use Rattle.ode_run.specs.Ending.{last_points}

pub returns-then-kept-clause-acts : goal.returns-then-kept-clause-acts
returns-then-kept-clause-acts g c = λ entries first context.
    subst (λ (b : Bool). IfOk c.commit.result (λ _. tx_of first c.commit.new.ctx ≡ last_points (tables_of c.args.ctx.now) b (tx_of first c.args.ctx.now))) (sym c.if-kept.true) (c.commit.ensures.acts entries first context)

pub returns-else-kept-clause-acts : goal.returns-else-kept-clause-acts
returns-else-kept-clause-acts g c = λ entries first context.
    subst (λ (b : Bool). IfOk c.abort.result (λ _. tx_of first c.abort.new.ctx ≡ last_points (tables_of c.args.ctx.now) b (tx_of first c.args.ctx.now))) (sym c.if-kept.false) (c.abort.ensures.acts entries first context)
