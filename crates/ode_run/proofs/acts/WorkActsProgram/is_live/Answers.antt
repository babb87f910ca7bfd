use Rattle.std.proofs.Common.{◌∙◌}
use Rattle.ode_run.proofs.ActLaws.{known_behind}
use Rattle.ode_run.proofs.ServeLaws.{goes_behind}
use Rattle.ode_run.proofs.acts.WorkActsProgram.is_live.Goals as goal
use Rattle.ode_view_laws.specs.Viewing.{world_now}

pub returns-clause-acts : goal.returns-clause-acts
unfolding world_now
returns-clause-acts g c = λ all k declares known. c.ask_live.ensures.acts all k (c.classes.ensures ∙ known.classes) known.runs

pub returns-clause-kept : goal.returns-clause-kept
returns-clause-kept g c = λ k known.
    known_behind g.H.Host.view g.K.Keep.holds g.K.Keep.live c.ask_live.result c.args.self.now c.ask_live.new.self c.args.schema.now k known (c.ask_live.ensures.lent k) (c.ask_live.ensures.kept k (c.classes.ensures ∙ known.classes) known.runs)

pub returns-clause-faults : goal.returns-clause-faults
returns-clause-faults g c = λ k before.
    goes_behind g.H.Host.view g.K.Keep.live c.ask_live.result c.args.self.now c.ask_live.new.self k before (c.ask_live.ensures.lent k) (c.ask_live.ensures.faults k.began)
