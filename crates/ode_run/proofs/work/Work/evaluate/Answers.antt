use Rattle.ode_interpreter.specs.Seen.{scene}
use Rattle.ode_run.proofs.ConstraintLaws.{calm_left}
use Rattle.ode_run.proofs.EndLaws.{evaluated, same_view}
use Rattle.ode_run.proofs.work.Work.evaluate.Goals as goal
use Rattle.ode_run.specs.Knowing.{tx}
use Rattle.std.proofs.Common.{◌∙◌}

pub returns-clause-acts : goal.returns-clause-acts
returns-clause-acts g c = λ all k same holds.
    let judged = c.in_ok-judged.judged in
    let meant = c.in_ok-judged.ensures.value all k same holds in
    let now = c.judge.ensures.same in
    evaluated c.args.e.now (scene c.args.on.now) (tx all k c.args.self.now) (tx all k c.judge.new.self) (tx all k c.look_all.new.self) judged.0 c.as_slice.result.now c.valued.result
    (same_view all k.first _ _ _ _ _ _ _ _ now.0 now.1 now.2 now.3) meant.0 (c.as_slice.ensures ∙ meant.1)
    (c.in_ok-look_all.ensures.acts all k same (c.in_ok-judged.ensures.kept k same holds)) c.valued.ensures.is

pub returns-clause-kept : goal.returns-clause-kept
returns-clause-kept g c = λ k same holds. calm_left c.valued.result _ _ c.valued.ensures.calm (c.in_ok-look_all.ensures.kept k same (c.in_ok-judged.ensures.kept k same holds))

pub returns-clause-faults : goal.returns-clause-faults
returns-clause-faults g c = λ began serves. calm_left c.valued.result _ _ c.valued.ensures.calm (c.in_ok-look_all.ensures.faults began (c.in_ok-judged.ensures.faults began serves))

pub returns-clause-lent : goal.returns-clause-lent
returns-clause-lent g c = λ k lent. c.look_all.ensures.lent k (c.judge.ensures.lent k lent)

pub returns-in_err-look_all-clause-lent : goal.returns-in_err-look_all-clause-lent
returns-in_err-look_all-clause-lent g c = λ k lent. c.look_all.ensures.lent k (c.judge.ensures.lent k lent)
