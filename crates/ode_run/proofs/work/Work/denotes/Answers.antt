use Rattle.std.proofs.Common.{rules, ◌<◌, ◌∙◌, ap}
use Rattle.ode_laws.specs.Alike.{NumberTx}
use Rattle.ode_run.proofs.EndLaws.{same_view}
use Rattle.ode_run.proofs.work.Work.denotes.Goals as goal
use Rattle.ode_run.specs.Knowing.{tx}
use Rattle.ode_value.specs.Acts.{Done}

pub returns-clause-acts : goal.returns-clause-acts
returns-clause-acts g c = λ all k same holds.
    let some : 0 < c.args.of.object = search rules in
    c.denotes_in.ensures (tx all k c.args.self.now) some (c.in_ok-found.ensures.value all k same holds)
    ∙ ap (λ (z : NumberTx). Done c.denotes_in.result z) (same_view all k.first _ _ _ _ _ _ _ _ c.head.ensures.same.0 c.head.ensures.same.1 c.head.ensures.same.2 c.head.ensures.same.3)
