use Rattle.std.proofs.Common.{rules, ◌<◌, subst}
use Rattle.ode_interpreter.specs.Seen.{Ends}
use Rattle.ode_laws.specs.Alike.{NumberTx}
use Rattle.ode_run.proofs.ConstraintLaws.{calm_left}
use Rattle.ode_run.proofs.EndLaws.{same_view}
use Rattle.ode_run.proofs.work.Work.denoting.Goals as goal
use Rattle.ode_run.specs.Knowing.{tx}
use Rattle.ode_value.specs.Expressions.{denoting}

pub returns-clause-acts : goal.returns-clause-acts
returns-clause-acts g c = λ all k same holds.
    let y = tx all k c.args.self.now in
    let some : 0 < c.args.of.object = search rules in
    subst (λ (z : NumberTx). Ends c.stands_in.result z (denoting c.args.of y)) (same_view all k.first _ _ _ _ _ _ _ _ c.head.ensures.same.0 c.head.ensures.same.1 c.head.ensures.same.2 c.head.ensures.same.3)
    (c.stands_in.ensures.is y some (c.in_ok-found.ensures.value all k same holds))

pub returns-clause-kept : goal.returns-clause-kept
returns-clause-kept g c = λ k same holds. calm_left c.stands_in.result _ _ c.stands_in.ensures.calm (c.in_ok-found.ensures.kept k same holds)

pub returns-clause-faults : goal.returns-clause-faults
returns-clause-faults g c = λ began serves. calm_left c.stands_in.result _ _ c.stands_in.ensures.calm (c.in_ok-found.ensures.faults began serves)
