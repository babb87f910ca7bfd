use Rattle.std.specs.Prelude.{[], ◌∷◌}
use Rattle.ode_run.proofs.LookLaws.{behind_looks}
use Rattle.ode_run.proofs.work.Work.set_own.Goals as goal
use Rattle.ode_run.specs.Knowing.{tx}
use Rattle.ode_value.specs.Making.{sets_field}

pub returns-clause-acts : goal.returns-clause-acts
returns-clause-acts g c = λ all k same holds.
    behind_looks (c.args.of.object ∷ []) (sets_field c.args.of c.args.place c.args.v) c.set_field.result (tx all k c.args.self.now) (tx all k c.look.new.self) (tx all k c.set_field.new.self) (c.in_ok-look.ensures.acts all k same holds)
    (c.set_field.ensures.acts all k same (c.in_ok-look.ensures.kept k same holds))

pub returns-clause-lent : goal.returns-clause-lent
returns-clause-lent g c = λ k lent. c.set_field.ensures.lent k (c.look.ensures.lent k lent)
