use Rattle.ode_run.proofs.work.Work.tell_new.Goals as goal

pub returns-in_err-print-clause-lent : goal.returns-in_err-print-clause-lent
returns-in_err-print-clause-lent g c = λ k lent. c.print.ensures.lent k (c.look.ensures.lent k lent)

pub returns-clause-lent : goal.returns-clause-lent
returns-clause-lent g c = λ k lent. c.print.ensures.lent k (c.look.ensures.lent k lent)
