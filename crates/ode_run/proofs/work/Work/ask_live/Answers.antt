use Rattle.std.specs.Prelude.{[], ◌∷◌}
use Rattle.ode_run.proofs.LookLaws.{behind_looks}
use Rattle.ode_run.proofs.work.Work.ask_live.Goals as goal
use Rattle.ode_run.specs.Knowing.{tx}
use Rattle.ode_value.specs.Acts.{reads}
use Rattle.ode_value.specs.Changes.{is_live}

pub returns-clause-acts : goal.returns-clause-acts
returns-clause-acts g c = λ all k same holds.
    behind_looks (c.args.id ∷ []) (reads (is_live c.args.id)) c.is_live.result (tx all k c.args.self.now) (tx all k c.look.new.self) (tx all k c.is_live.new.self) (c.in_ok-look.ensures.acts all k same holds)
    (c.is_live.ensures.acts all k same (c.in_ok-look.ensures.kept k same holds))

pub returns-clause-lent : goal.returns-clause-lent
returns-clause-lent g c = λ k lent. c.is_live.ensures.lent k (c.look.ensures.lent k lent)
