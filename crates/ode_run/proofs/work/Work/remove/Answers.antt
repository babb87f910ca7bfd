use Rattle.ode_run.proofs.work.Work.remove.Goals as goal

pub returns-clause-lent : goal.returns-clause-lent
returns-clause-lent g c = λ k lent. c.remove_live.ensures.lent k (c.is_live.ensures.lent k lent)
