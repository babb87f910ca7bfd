use Rattle.ode_run.proofs.ActLaws.{known_behind}
use Rattle.ode_run.proofs.ServeLaws.{goes_behind}
use Rattle.ode_run.proofs.acts.WorkActsProgram.arise_whole.Goals as goal
use Rattle.ode_view_laws.specs.Viewing.{world_now}

pub returns-clause-acts : goal.returns-clause-acts
unfolding world_now
returns-clause-acts g c = λ all k declares known touched. c.arise.ensures.acts all k declares known.classes known.runs touched

pub returns-clause-kept : goal.returns-clause-kept
returns-clause-kept g c = λ k known.
    known_behind g.H.Host.view g.K.Keep.holds g.K.Keep.live c.arise.result c.args.self.now c.arise.new.self c.args.schema.now k known (c.arise.ensures.lent k) (c.arise.ensures.kept k known.classes known.runs)

pub returns-clause-faults : goal.returns-clause-faults
returns-clause-faults g c = λ k before.
    goes_behind g.H.Host.view g.K.Keep.live c.arise.result c.args.self.now c.arise.new.self k before (c.arise.ensures.lent k) (c.arise.ensures.faults k.began)
