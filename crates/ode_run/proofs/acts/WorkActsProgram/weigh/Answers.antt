use Rattle.std.proofs.Common.{◌∙◌, List, subst, sym}
use Rattle.ode_interpreter.specs.Seen.{Ends}
use Rattle.ode_run.proofs.ActLaws.{known_behind}
use Rattle.ode_run.proofs.ServeLaws.{goes_behind}
use Rattle.ode_run.proofs.acts.WorkActsProgram.weigh.Goals as goal
use Rattle.ode_run.specs.Knowing.{tx}
use Rattle.ode_value.specs.Completing.{weighs}
use Rattle.ode_value.specs.Worlds.{Declared}
use Rattle.ode_view_laws.specs.Viewing.{world_now}

pub returns-clause-acts : goal.returns-clause-acts
unfolding world_now
returns-clause-acts g c = λ all k declares known is.
    subst (λ (cs : List Declared). Ends c.weigh.result (tx cs k c.weigh.new.self) (weighs (tx cs k c.args.self.now))) (sym is)
    (c.weigh.ensures.acts k (c.classes.ensures ∙ known.classes) known.runs)

pub returns-clause-kept : goal.returns-clause-kept
returns-clause-kept g c = λ k known.
    known_behind g.H.Host.view g.K.Keep.holds g.K.Keep.live c.weigh.result c.args.self.now c.weigh.new.self c.args.schema.now k known (c.weigh.ensures.lent k) (c.weigh.ensures.kept k (c.classes.ensures ∙ known.classes) known.runs)

pub returns-clause-faults : goal.returns-clause-faults
returns-clause-faults g c = λ k before.
    goes_behind g.H.Host.view g.K.Keep.live c.weigh.result c.args.self.now c.weigh.new.self k before (c.weigh.ensures.lent k) (c.weigh.ensures.faults k.began)
