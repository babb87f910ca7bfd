use Rattle.std.proofs.Common.{◌≡◌, ◌∙◌, ap, refl, subst, sym, true, Ok}
use Rattle.std.specs.Prelude.{IfOk, IsErrOf, OnOk}
use Rattle.ode_host.specs.Host.{HostCalls}
use Rattle.ode_language.specs.Languages.{ode}
use Rattle.ode_machine.specs.Commands.{carried, settles}
use Rattle.ode_machine.specs.Refusals.{checked_in}
use Rattle.ode_machine.specs.Sessions.{closed}
use Rattle.ode_value.specs.Transactions.{Script, begun}
use Rattle.ode_value.specs.declared.statement.Statement.TheVariants as statement
use Rattle.ode_schema.specs.Parts.{AreFit, AreAligned}
use Rattle.ode_transact.specs.declared.error.EngineError.TheVariants as error
use Rattle.ode_engine.specs.Refusing.{back, turned_down}
use Rattle.ode_engine.specs.Serving.{IsUsable, Serves, settlings}
use Rattle.ode_engine.specs.declared.commanding.State.TheVariants as state
use Rattle.ode_engine.proofs.EngineLaws.{turned_usable}
use Rattle.ode_engine.proofs.RunLaws.{checked_as, checked_outside_serves, checked_quiet, turned_outside_serves, turned_told}
use Rattle.ode_engine.proofs.ServeLaws.{running_now, told_on}
use Rattle.ode_engine.proofs.SessionLaws.{simple_well}
use Rattle.ode_transact.proofs.LogLaws.{disk_looks}
use Rattle.ode_engine.proofs.KeptLaws.{checked_kept, turned_kept}
use Rattle.ode_transact.specs.Logging.{Logs}
use Rattle.ode_value.specs.Executing.{commands}
use Rattle.ode_value.specs.Pasts.{lists}
use Rattle.ode_value.specs.Settling.{transaction}
use Rattle.ode_value.specs.declared.statement.Stmt.{Stmt}
use Rattle.ode_engine.proofs.commanding.simple_begun.Goals as goal

pub run_whole-requires-clause-live : goal.run_whole-requires-clause-live
run_whole-requires-clause-live g c = c.in-Ok.ensures.leaves.stays

pub returns-in-Ok-clause-serves : goal.returns-in-Ok-clause-serves
returns-in-Ok-clause-serves g c w well runs left text =
    let is = checked_as (checked_in ode w.bones c.args.s.now) c.get.result.now c.in-Ok.s (c.in-Ok.ensures.answers w (begun Script w) runs) c.get.ensures in
    checked_outside_serves g.H.Host.view g.K.Keep.holds g.K.Keep.live g.K.Keep.means g.met.K.Keep.stands g.met.H.Host.text_stands c.args.output.now c.run_whole.new.output w c.args.s.now c.get.result.now _ c.args.host.now c.checked.new.host c.run_whole.new.host (running_now g.H.Host.view g.K.Keep.holds g.K.Keep.live ode w c.args.ctx c.args.host.now (begun Script w) well runs) c.in-Ok.ensures.leaves.looks is
    (c.run_whole.ensures.serves w well (c.in-Ok.ensures.keeps w (begun Script w) runs).stays (simple_well w well left c.args.s.now c.get.result.now text is))

pub returns-in-Ok-clause-leaves : goal.returns-in-Ok-clause-leaves
returns-in-Ok-clause-leaves g c = told_on _ _ _ _ _ (checked_quiet c.in-Ok.s _ _ _ c.in-Ok.ensures.leaves).1 c.run_whole.ensures.leaves

pub returns-in-Err-clause-serves : goal.returns-in-Err-clause-serves
returns-in-Err-clause-serves g c w well runs left text =
    let is = c.turned_down.ensures ∙ ap (λ o. turned_down (state.Rest o) c.in-Err.turned) c.put_back.ensures in
    subst (λ r. Serves g.H.Host.view g.K.Keep.holds g.K.Keep.live g.K.Keep.means ode (closed w) (carried ode (closed w) (statement.Simple c.args.s.now)) r c.args.host.now c.checked.new.host c.args.output.now c.args.output.now) (sym is)
    (turned_outside_serves g.H.Host.view g.K.Keep.holds g.K.Keep.live g.K.Keep.means g.met.K.Keep.stands g.met.H.Host.text_stands c.args.output.now c.args.output.now refl w c.args.s.now c.in-Err.turned c.checked.new.ctx c.args.host.now c.checked.new.host well
    (running_now g.H.Host.view g.K.Keep.holds g.K.Keep.live ode w c.args.ctx c.args.host.now (begun Script w) well runs) c.in-Err.ensures.leaves.looks (c.in-Err.ensures.keeps w (begun Script w) runs) (c.in-Err.ensures.answers w (begun Script w) runs))

pub returns-in-Err-clause-leaves : goal.returns-in-Err-clause-leaves
returns-in-Err-clause-leaves g c =
    subst (λ r. HostCalls (IsErrOf r error.DiskFault) (IsErrOf r error.WriteFault) (g.H.Host.view c.args.host.now) (g.H.Host.view c.checked.new.host)) (sym c.turned_down.ensures)
    (turned_told c.in-Err.turned (state.Rest c.put_back.result) _ _ _ c.in-Err.ensures.leaves)

pub returns-in-Err-clause-usable : goal.returns-in-Err-clause-usable
returns-in-Err-clause-usable g c =
    let is = c.turned_down.ensures ∙ ap (λ o. turned_down (state.Rest o) c.in-Err.turned) c.put_back.ensures in
    subst (λ r. IfOk r (λ q. IsUsable g.K.Keep.live q.0)) (sym is) (turned_usable g.K.Keep.live (state.Rest (back c.checked.new.ctx)) c.in-Err.turned (g.K.Keep.live c.checked.new.ctx.heap ≡ true)
    (λ usable. (usable, subst AreFit (sym c.in-Err.ensures.same) c.requires.fit, subst AreAligned (sym c.in-Err.ensures.same) c.requires.aligned)) c.in-Err.ensures.leaves.stays)

pub returns-in-Ok-clause-logs : goal.returns-in-Ok-clause-logs
returns-in-Ok-clause-logs g c w entries well runs left text disk =
    let is = checked_as (checked_in ode w.bones c.args.s.now) c.get.result.now c.in-Ok.s (c.in-Ok.ensures.answers w (begun Script w) runs) c.get.ensures in
    checked_kept g.K.Keep.means c.run_whole.result w entries c.args.log.now c.run_whole.new.log (g.H.Host.view c.run_whole.new.host) (checked_in ode w.bones c.args.s.now) (λ (s : Stmt). Ok (settles (transaction lists Script (commands lists s) w))) c.get.result.now is
    (c.run_whole.ensures.logs w entries well (c.in-Ok.ensures.keeps w (begun Script w) runs).stays (simple_well w well left c.args.s.now c.get.result.now text is)
    (disk_looks g.K.Keep.means entries (g.H.Host.view c.args.host.now) (g.H.Host.view c.checked.new.host) c.in-Ok.ensures.leaves.looks disk))

pub returns-in-Err-clause-logs : goal.returns-in-Err-clause-logs
returns-in-Err-clause-logs g c w entries well runs left text disk =
    subst (λ r. OnOk r (Logs g.K.Keep.means ode w entries (settlings (carried ode (closed w) (statement.Simple c.args.s.now))) c.args.log.now c.args.log.now (g.H.Host.view c.checked.new.host))) (sym c.turned_down.ensures)
    (turned_kept g.K.Keep.means (state.Rest c.put_back.result) c.in-Err.turned w (checked_in ode w.bones c.args.s.now) (λ (s : Stmt). Ok (settles (transaction lists Script (commands lists s) w))) entries c.args.log.now (g.H.Host.view c.checked.new.host)
    (c.in-Err.ensures.answers w (begun Script w) runs) (disk_looks g.K.Keep.means entries (g.H.Host.view c.args.host.now) (g.H.Host.view c.checked.new.host) c.in-Err.ensures.leaves.looks disk))
