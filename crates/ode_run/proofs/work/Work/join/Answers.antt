use Rattle.std.specs.Prelude.{[], ◌∷◌}
use Rattle.ode_interpreter.specs.Touching.{joins_there}
use Rattle.ode_run.proofs.LookLaws.{behind_looks}
use Rattle.ode_run.proofs.work.Work.join.Goals as goal
use Rattle.ode_run.specs.Knowing.{tx}

pub returns-clause-acts : goal.returns-clause-acts
returns-clause-acts g c = λ all k same holds.
    behind_looks (c.args.id ∷ []) (joins_there c.args.id) c.join_there.result (tx all k c.args.self.now) (tx all k c.look.new.self) (tx all k c.join_there.new.self) (c.in_ok-look.ensures.acts all k same holds)
    (c.join_there.ensures.acts all k same (c.in_ok-look.ensures.kept k same holds))

pub returns-clause-lent : goal.returns-clause-lent
returns-clause-lent g c = λ k lent. c.join_there.ensures.lent k (c.look.ensures.lent k lent)
