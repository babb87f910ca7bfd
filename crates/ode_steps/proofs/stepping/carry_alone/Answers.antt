use Rattle.std.proofs.Common.{◌++◌, Ok, None, true, subst, sym}
use Rattle.ode_engine.proofs.FaultLaws.{undamaged_by}
use Rattle.ode_host.proofs.Calls.{host_calls_as}
use Rattle.ode_host.specs.Host.{LeavesOnly, Printed}
use Rattle.ode_language.specs.Languages.{ode}
use Rattle.ode_machine.specs.Interleaving.{replies_to, tries}
use Rattle.ode_machine.specs.Moments.{IsAfterSome}
use Rattle.ode_steps.proofs.ServeLaws.{loud_all}
use Rattle.ode_steps.specs.Serving.{Serves}
use Rattle.ode_transact.specs.Items.{items_of, texts_of}
use Rattle.ode_transact.specs.Resting.{HoldsBy}
use Rattle.ode_value.specs.Language.{Settlings}
use Rattle.ode_engine.specs.Serving.{answer_to, settlings}
use Rattle.ode_machine.specs.Sessions.{closed}
use Rattle.ode_steps.proofs.AloneLaws.{alone_answers, alone_failed, opened_usable, start_live, start_stands, there_is}
use Rattle.ode_steps.specs.declared.answer.Answer.{Answer}
use Rattle.ode_steps.proofs.stepping.carry_alone.Goals as goal

pub command-requires-clause-live : goal.command-requires-clause-live
command-requires-clause-live g c =
    start_live g.H.Host.view g.K.Keep.holds g.K.Keep.live c.args.rest c.start-engine.result c.start-engine.ensures.rest.0 c.start-engine.ensures.rest.1 c.start-engine.ensures.live c.requires.live c.requires.fit c.requires.aligned

pub into_opened-requires : goal.into_opened-requires
into_opened-requires g c =
    record { there = there_is g.H.Host.view g.K.Keep.holds g.K.Keep.live c.command.new.self.rest c.command.new.self.running c.in-Ok.ensures.live.one }

pub returns-in-Ok-clause-serves : goal.returns-in-Ok-clause-serves
returns-in-Ok-clause-serves g c m n sessions here none goes_on =
    let at = start_stands g.H.Host.view g.K.Keep.holds g.K.Keep.live m.world c.args.rest c.start-engine.result c.args.host.now c.start-engine.ensures.rest.0 c.start-engine.ensures.rest.1 here.goes_on.well here.rests in
    subst (λ (a : Answer). Serves g.H.Host.view g.K.Keep.holds g.K.Keep.live g.K.Keep.means ode m (replies_to m n true (tries ode m None c.args.s.now)) (Ok (c.into_opened.result, a)) sessions c.args.host.now c.command.new.host) (sym c.answer_of.ensures)
    (alone_answers g.H.Host.view g.K.Keep.holds g.K.Keep.live g.K.Keep.means m n c.args.s.now c.requires.alone none sessions here.same c.args.host.now c.command.new.host c.in-Ok.done c.command.new.self c.into_opened.result c.into_opened.ensures (c.in-Ok.ensures.answer (closed m.world) at) (c.in-Ok.ensures.stands (closed m.world) at)
    (subst (λ (all : Settlings). Printed (texts_of all) (g.H.Host.view c.args.host.now) (g.H.Host.view c.command.new.host)) (loud_all c.start-engine.result.quiet c.start-engine.ensures.output.0 (settlings (answer_to ode (closed m.world) c.args.s.now))) (c.in-Ok.ensures.printed (closed m.world) at))
    (λ said more is. subst (λ (all : Settlings). LeavesOnly (g.H.Host.view c.args.host.now) (g.H.Host.view c.command.new.host) (IsAfterSome (HoldsBy ode g.K.Keep.means) (items_of all ++ more) m.world said)) (loud_all c.start-engine.result.quiet c.start-engine.ensures.output.0 (settlings (answer_to ode (closed m.world) c.args.s.now))) (c.in-Ok.ensures.any_moment (closed m.world) said more at is)) here.goes_on goes_on)

pub returns-in-Ok-clause-usable : goal.returns-in-Ok-clause-usable
returns-in-Ok-clause-usable g c =
    opened_usable g.H.Host.view g.K.Keep.holds g.K.Keep.live c.command.new.self.rest c.command.new.self.running c.into_opened.result c.into_opened.ensures c.in-Ok.ensures.live.one

pub returns-in-Ok-clause-leaves : goal.returns-in-Ok-clause-leaves
returns-in-Ok-clause-leaves g c =
    host_calls_as _ _ _ _ _ _ (λ is. cc (is)) (λ is. cc (is)) (λ is. cc (is)) (λ is. cc (is)) c.in-Ok.ensures.leaves

pub returns-in-Err-clause-serves : goal.returns-in-Err-clause-serves
returns-in-Err-clause-serves g c m n sessions here none goes_on =
    let at = start_stands g.H.Host.view g.K.Keep.holds g.K.Keep.live m.world c.args.rest c.start-engine.result c.args.host.now c.start-engine.ensures.rest.0 c.start-engine.ensures.rest.1 here.goes_on.well here.rests in
    alone_failed g.H.Host.view g.K.Keep.holds g.K.Keep.live g.K.Keep.means m n c.args.s.now c.requires.alone none sessions here.same c.args.host.now c.command.new.host c.in-Err.error (λ said more is. subst (λ (all : Settlings). LeavesOnly (g.H.Host.view c.args.host.now) (g.H.Host.view c.command.new.host) (IsAfterSome (HoldsBy ode g.K.Keep.means) (items_of all ++ more) m.world said)) (loud_all c.start-engine.result.quiet c.start-engine.ensures.output.0 (settlings (answer_to ode (closed m.world) c.args.s.now))) (c.in-Err.ensures.any_moment (closed m.world) said more at is)) (undamaged_by c.in-Err.error _ c.in-Err.ensures.undamaged (λ never. never (closed m.world) at))

pub returns-in-Err-clause-leaves : goal.returns-in-Err-clause-leaves
returns-in-Err-clause-leaves g c =
    host_calls_as _ _ _ _ _ _ (λ is. cc (is)) (λ is. cc (is)) (λ is. cc (is)) (λ is. cc (is)) c.in-Err.ensures.leaves
