use Rattle.std.proofs.Common.{Ok}
use Rattle.ode_language.specs.Languages.{ode}
use Rattle.ode_machine.specs.Commands.{settles}
use Rattle.ode_machine.specs.Sessions.{closed}
use Rattle.ode_transact.specs.Contexts.{ContextRuns}
use Rattle.ode_transact.proofs.TransactLaws.{transaction_settles}
use Rattle.ode_value.specs.Executing.{commands}
use Rattle.ode_value.specs.Pasts.{lists}
use Rattle.ode_value.specs.Settling.{transaction}
use Rattle.ode_value.specs.Transactions.{Script, begun}
use Rattle.ode_engine.proofs.FaultLaws.{undamaged_by}
use Rattle.ode_engine.proofs.RunLaws.{ended_serves}
use Rattle.ode_engine.proofs.ServeLaws.{quiet_by, running_now, stopped_serves, told_by, told_on}
use Rattle.ode_transact.proofs.LogLaws.{disk_looks}
use Rattle.ode_engine.proofs.KeptLaws.{ended_kept}
use Rattle.ode_engine.proofs.commanding.run_whole.Goals as goal

pub settle-requires-clause-live : goal.settle-requires-clause-live
settle-requires-clause-live g c = c.in-Ok.ensures.usable c.requires.live

pub returns-in-Err-clause-serves : goal.returns-in-Err-clause-serves
returns-in-Err-clause-serves g c w well runs wells =
    stopped_serves g.H.Host.view g.K.Keep.holds g.K.Keep.live g.K.Keep.means ode g.met.K.Keep.stands g.met.H.Host.text_stands c.args.output.now c.args.output.now (closed w) (Ok (settles (transaction lists Script (commands lists c.args.s.now) w))) _ c.args.host.now c.carry.new.host (running_now g.H.Host.view g.K.Keep.holds g.K.Keep.live ode w c.args.ctx c.args.host.now (begun Script w) well runs)
    (c.in-Err.ensures.looks c.requires.live) (undamaged_by _ _ c.in-Err.ensures.undamaged (λ never. never ode w (begun Script w) runs))

pub returns-in-Err-clause-leaves : goal.returns-in-Err-clause-leaves
returns-in-Err-clause-leaves g c =
    told_by _ _ _ _ (λ is. cc (is)) (λ is. cc (is)) (λ is. c.in-Err.ensures.silent (cc (is))) (c.in-Err.ensures.looks c.requires.live) (c.in-Err.ensures.cause c.requires.live)

pub returns-in-Ok-clause-serves : goal.returns-in-Ok-clause-serves
returns-in-Ok-clause-serves g c w well runs wells =
    let ended = transaction_settles Script (commands lists c.args.s.now) w c.in-Ok.ending (ContextRuns g.H.Host.view g.K.Keep.holds g.K.Keep.live ode w c.carry.new.ctx c.carry.new.host) (c.in-Ok.ensures.runs w (begun Script w) runs) in
    ended_serves g.H.Host.view g.K.Keep.holds g.K.Keep.live g.K.Keep.means g.met.K.Keep.stands g.met.H.Host.text_stands c.args.output.now c.settle.new.output (closed w) (transaction lists Script (commands lists c.args.s.now) w) c.in-Ok.ending ended.0 _ c.args.host.now c.carry.new.host c.settle.new.host (running_now g.H.Host.view g.K.Keep.holds g.K.Keep.live ode w c.args.ctx c.args.host.now (begun Script w) well runs)
    (c.in-Ok.ensures.looks c.requires.live) ended.2 wells (λ wells2. c.settle.ensures.serves (closed w) ended.0 well ended.1 wells2)

pub returns-in-Ok-clause-leaves : goal.returns-in-Ok-clause-leaves
returns-in-Ok-clause-leaves g c =
    told_on _ _ _ _ _ (quiet_by _ _ _ (λ is. cc (is)) (c.in-Ok.ensures.looks c.requires.live) (c.in-Ok.ensures.cause c.requires.live)).1 c.settle.ensures.leaves

pub returns-in-Ok-clause-logs : goal.returns-in-Ok-clause-logs
returns-in-Ok-clause-logs g c w entries well runs wells disk =
    let ended = transaction_settles Script (commands lists c.args.s.now) w c.in-Ok.ending (ContextRuns g.H.Host.view g.K.Keep.holds g.K.Keep.live ode w c.carry.new.ctx c.carry.new.host) (c.in-Ok.ensures.runs w (begun Script w) runs) in
    ended_kept g.K.Keep.means c.settle.result w entries c.args.log.now c.settle.new.log (g.H.Host.view c.settle.new.host) (transaction lists Script (commands lists c.args.s.now) w) c.in-Ok.ending ended.0 ended.2 wells
    (λ behind. c.settle.ensures.logs (closed w) ended.0 entries well ended.1 behind (disk_looks g.K.Keep.means entries (g.H.Host.view c.args.host.now) (g.H.Host.view c.carry.new.host) (c.in-Ok.ensures.looks c.requires.live) disk))
