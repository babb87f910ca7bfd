use Rattle.std.proofs.Common.{◌∙◌, ℕ, List, sym, ap}
use Rattle.std.proofs.lemmas.List.{drop_all}
use Rattle.ode_run.proofs.LookLaws.{looks_next}
use Rattle.ode_run.proofs.work.Work.look_all.Goals as goal
use Rattle.ode_run.specs.Knowing.{tx}
use Rattle.ode_value.specs.Acts.{looks}

pub loop-id-preserved : goal.loop-id-preserved
loop-id-preserved g c =
    let before = c.loop-id.invariant in
    let now = c.in_ok-look.ensures in
    record {
      kept = λ k same runs. now.kept k same (before.kept k same runs);
      serves = λ began serves. now.faults began (before.serves began serves);
      lent = λ k lent. now.lent k (before.lent k lent);
      rest = λ all k same runs.
          sym (looks_next 0 c.args.ids.now c.loop-id.id-index (tx all k c.loop-id.self) (tx all k c.look.new.self) c.loop-id-test.true (now.acts all k same (before.kept k same runs)))
          ∙ before.rest all k same runs;
    }

pub returns-clause-acts : goal.returns-clause-acts
returns-clause-acts g c = λ all k same runs.
    sym (c.loop-id.invariant.rest all k same runs)
    ∙ ap (λ (ids : List ℕ). looks ids (tx all k c.loop-id.self)) (drop_all c.loop-id.id-index c.args.ids.now c.loop-id-test.false)

pub returns-in_err-look-clause-lent : goal.returns-in_err-look-clause-lent
returns-in_err-look-clause-lent g c = λ k lent. c.look.ensures.lent k (c.loop-id.invariant.lent k lent)
