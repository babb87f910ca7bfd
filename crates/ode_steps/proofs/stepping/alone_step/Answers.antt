use Rattle.std.proofs.Common.{◌∙◌, None, true, sym}
use Rattle.ode_engine.proofs.ServeLaws.{quiet_none, rest_now, told_none}
use Rattle.ode_host.proofs.Moments.{looks_none}
use Rattle.ode_language.specs.Languages.{ode}
use Rattle.ode_machine.specs.Interleaving.{footprint_of, tries}
use Rattle.ode_steps.proofs.AnswerLaws.{put_off_serves}
use Rattle.ode_steps.proofs.OpenedLaws.{none_other_open, other_holds}
use Rattle.ode_steps.proofs.stepping.alone_step.Goals as goal

pub returns-in-Some-clause-serves : goal.returns-in-Some-clause-serves
returns-in-Some-clause-serves g c m here closed goes_on =
    put_off_serves g.H.Host.view g.K.Keep.holds g.K.Keep.live g.K.Keep.means g.met.K.Keep.stands g.met.H.Host.text_stands m c.args.session c.args.rest c.args.sessions.now c.args.host.now c.args.host.now (rest_now g.H.Host.view g.K.Keep.holds g.K.Keep.live ode m.world c.args.rest c.args.host.now here.goes_on.well here.rests) (looks_none (g.H.Host.view c.args.host.now)) true (tries ode m None c.args.s.now) _
    (other_holds c.args.session c.args.sessions.now m.sessions c.in-Some.other (footprint_of (tries ode m None c.args.s.now)) here.same (sym c.other.ensures ∙ c.in-Some.is)) here

pub returns-in-Some-clause-leaves : goal.returns-in-Some-clause-leaves
returns-in-Some-clause-leaves g c =
    told_none _ _ _ (quiet_none (g.H.Host.view c.args.host.now))

pub returns-in-None-clause-serves : goal.returns-in-None-clause-serves
returns-in-None-clause-serves g c m here closed goes_on =
    c.carry_alone.ensures.serves m c.args.session c.args.sessions.now here (none_other_open c.args.session c.args.sessions.now m.sessions here.same closed (sym c.other.ensures ∙ c.in-None.is)) goes_on
