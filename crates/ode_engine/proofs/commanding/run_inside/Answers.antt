use Rattle.std.proofs.Common.{Ok, refl, subst, sym}
use Rattle.ode_schema.specs.Parts.{AreAligned, AreFit}
use Rattle.ode_language.specs.Languages.{ode}
use Rattle.ode_machine.specs.Commands.{goes_on}
use Rattle.ode_machine.specs.Sessions.{opened}
use Rattle.ode_value.specs.Executing.{commands}
use Rattle.ode_value.specs.Pasts.{lists}
use Rattle.ode_engine.proofs.FaultLaws.{leaves_sound}
use Rattle.ode_engine.proofs.RunLaws.{done_serves, fault_serves, fault_told, fell_serves}
use Rattle.ode_engine.proofs.ServeLaws.{quiet_by, running_now, told_none, told_on}
use Rattle.ode_transact.proofs.LogLaws.{disk_looks}
use Rattle.ode_engine.proofs.KeptLaws.{done_kept, fell_kept}
use Rattle.ode_engine.proofs.SessionLaws.{fell_well}
use Rattle.ode_engine.proofs.commanding.run_inside.Goals as goal

pub settle-requires-clause-live : goal.settle-requires-clause-live
settle-requires-clause-live g c = (rw c.in-Err-Abort.field-0-is at (c.in-Err-Abort.ensures.faults c.requires.live)).usable

pub returns-in-Ok-clause-usable : goal.returns-in-Ok-clause-usable
returns-in-Ok-clause-usable g c = ((c.in-Ok.ensures.faults c.requires.live).usable, subst AreFit (sym c.in-Ok.ensures.same.0) c.requires.fit, subst AreAligned (sym c.in-Ok.ensures.same.0) c.requires.aligned)

pub returns-in-Ok-clause-serves : goal.returns-in-Ok-clause-serves
returns-in-Ok-clause-serves g c w t read session runs text checked =
    done_serves g.H.Host.view g.K.Keep.holds g.K.Keep.live g.K.Keep.means g.met.K.Keep.stands g.met.H.Host.text_stands c.args.output.now c.args.output.now refl w t read c.args.s.now _ c.args.host.now c.exec.new.host session (running_now g.H.Host.view g.K.Keep.holds g.K.Keep.live ode w c.args.ctx c.args.host.now t session.well runs)
    (c.in-Ok.ensures.faults c.requires.live).looks text checked (c.in-Ok.ensures.runs ode w t runs)

pub returns-in-Ok-clause-leaves : goal.returns-in-Ok-clause-leaves
returns-in-Ok-clause-leaves g c =
    let faults = c.in-Ok.ensures.faults c.requires.live in
    told_none _ _ _ (quiet_by _ _ _ (λ is. cc (is)) faults.looks faults.faults)

pub returns-in-Err-Abort-clause-serves : goal.returns-in-Err-Abort-clause-serves
returns-in-Err-Abort-clause-serves g c w t read session runs text checked =
    fell_serves g.H.Host.view g.K.Keep.holds g.K.Keep.live g.K.Keep.means g.met.K.Keep.stands g.met.H.Host.text_stands c.args.output.now c.settle.new.output w t read c.args.s.now c.in-Err-Abort.why _ _ c.args.host.now c.exec.new.host c.settle.new.host session (running_now g.H.Host.view g.K.Keep.holds g.K.Keep.live ode w c.args.ctx c.args.host.now t session.well runs)
    (c.in-Err-Abort.ensures.faults c.requires.live).looks text checked (λ x runs_on well. c.settle.ensures.serves (opened w t) x session.well runs_on well) (rw c.in-Err-Abort.field-0-is at (c.in-Err-Abort.ensures.runs ode w t runs))

pub returns-in-Err-Abort-clause-leaves : goal.returns-in-Err-Abort-clause-leaves
returns-in-Err-Abort-clause-leaves g c =
    let faults = c.in-Err-Abort.ensures.faults c.requires.live in
    told_on _ _ _ _ _ (quiet_by _ _ _ (λ is. cc (is, c.in-Err-Abort.field-0-is)) faults.looks faults.faults).1 c.settle.ensures.leaves

pub returns-in-Err-clause-serves : goal.returns-in-Err-clause-serves
returns-in-Err-clause-serves g c w t read session runs text checked =
    let leaves = c.in-Err.ensures.leaves runs.entries runs.world.world.stored.world runs.context in
    rw c.fault_of.ensures (fault_serves g.H.Host.view g.K.Keep.holds g.K.Keep.live g.K.Keep.means g.met.K.Keep.stands g.met.H.Host.text_stands c.args.output.now c.args.output.now (opened w t) (Ok (goes_on w (commands lists c.args.s.now t))) c.in-Err.stop c.args.host.now c.exec.new.host (running_now g.H.Host.view g.K.Keep.holds g.K.Keep.live ode w c.args.ctx c.args.host.now t session.well runs) leaves.looks
    (leaves_sound c.in-Err.stop _ leaves.stays))

pub returns-in-Err-clause-leaves : goal.returns-in-Err-clause-leaves
returns-in-Err-clause-leaves g c =
    let faults = c.in-Err.ensures.faults c.requires.live in
    rw c.fault_of.ensures (fault_told _ c.in-Err.stop _ _ (λ is. cc (is)) (λ is. cc (is)) faults.looks faults.faults)

pub returns-in-Ok-clause-logs : goal.returns-in-Ok-clause-logs
returns-in-Ok-clause-logs g c w t read entries session runs text checked disk =
    done_kept g.K.Keep.means w _ (commands lists c.args.s.now t) (c.in-Ok.ensures.runs ode w t runs) entries c.args.log.now (g.H.Host.view c.exec.new.host)
    (disk_looks g.K.Keep.means entries (g.H.Host.view c.args.host.now) (g.H.Host.view c.exec.new.host) (c.in-Ok.ensures.faults c.requires.live).looks disk)

pub returns-in-Err-Abort-clause-logs : goal.returns-in-Err-Abort-clause-logs
returns-in-Err-Abort-clause-logs g c w t read entries session runs text checked disk =
    fell_kept g.K.Keep.means c.settle.result w entries c.args.log.now c.settle.new.log (g.H.Host.view c.settle.new.host) c.in-Err-Abort.why _ (commands lists c.args.s.now t)
    (λ x runs_on is. c.settle.ensures.logs (opened w t) x entries session.well runs_on (fell_well w session.well t session.came read c.args.s.now text checked c.in-Err-Abort.why x is)
    (disk_looks g.K.Keep.means entries (g.H.Host.view c.args.host.now) (g.H.Host.view c.exec.new.host) (c.in-Err-Abort.ensures.faults c.requires.live).looks disk))
    (rw c.in-Err-Abort.field-0-is at (c.in-Err-Abort.ensures.runs ode w t runs))
