use Rattle.ode_schema.specs.Parts.{table_by}
use Rattle.ode_run.proofs.ActLaws.{known_behind}
use Rattle.ode_run.proofs.ServeLaws.{goes_behind}
use Rattle.ode_run.proofs.acts.WorkActsProgram.make.Goals as goal
use Rattle.ode_view_laws.specs.Viewing.{world_now}

pub returns-clause-acts : goal.returns-clause-acts
unfolding world_now
returns-clause-acts g c = λ all k declares known. c.make.ensures.acts all k (table_by c.args.schema.now.tables c.args.schema.now.maps) declares known.classes known.runs

pub returns-clause-kept : goal.returns-clause-kept
returns-clause-kept g c = λ k known.
    known_behind g.H.Host.view g.K.Keep.holds g.K.Keep.live c.make.result c.args.self.now c.make.new.self c.args.schema.now k known (c.make.ensures.lent k) (c.make.ensures.kept k known.classes known.runs)

pub returns-clause-faults : goal.returns-clause-faults
returns-clause-faults g c = λ k before.
    goes_behind g.H.Host.view g.K.Keep.live c.make.result c.args.self.now c.make.new.self k before (c.make.ensures.lent k) (c.make.ensures.faults k.began)
