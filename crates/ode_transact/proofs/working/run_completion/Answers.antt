use Rattle.std.proofs.Common.{IfOk, IsErrOf, Option, Result, subst, sym, ◌≡◌, true}
use Rattle.ode_host.specs.Causes.{RoseIf}
use Rattle.ode_run.specs.Contexts.{ContextRuns}
use Rattle.ode_transact.proofs.GoesLaws.{goes_by}
use Rattle.ode_transact.proofs.RunLaws.{ended_as, ended_cause, ended_undamaged, ended_usable}
use Rattle.ode_transact.proofs.working.run_completion.Goals as goal
use Rattle.ode_transact.specs.Errors.{OnDamaged}
use Rattle.ode_transact.specs.Working.{EndedAs}
use Rattle.ode_transact.specs.declared.error.EngineError.{EngineError}
use Rattle.ode_transact.specs.declared.error.EngineError.TheVariants.{DiskFault}
use Rattle.ode_value.specs.Completing.{completes}
use Rattle.ode_value.specs.Language.{Language, ListTx, ListWorld}
use Rattle.ode_value.specs.Pasts.{lists}
use Rattle.ode_value.specs.declared.reason.Reason.{Reason}

pub returns-clause-runs : goal.returns-clause-runs
returns-clause-runs g c = λ l w x is.
    let after = ContextRuns g.H.Host.view g.K.Keep.holds g.K.Keep.live l w c.complete.new.ctx c.complete.new.host in
    subst (λ (r : Result (Option Reason) EngineError). IfOk r (λ ending. EndedAs ending after (completes lists x))) (sym c.ending.ensures)
    (ended_as c.complete.result after (completes lists x) (goes_by g.H.Host.view g.K.Keep.holds g.K.Keep.live l w c.complete.result (completes lists x) c.args.ctx.now c.complete.new.ctx c.args.host.now c.complete.new.host x is (c.complete.ensures.runs l w x is) c.complete.ensures.leaves).ends)

pub returns-clause-looks : goal.returns-clause-looks
returns-clause-looks g c = λ usable. (c.complete.ensures.faults usable).looks

pub returns-clause-cause : goal.returns-clause-cause
returns-clause-cause g c = λ usable.
    let before = (g.H.Host.view c.args.host.now).disk_faults in
    let after = (g.H.Host.view c.complete.new.host).disk_faults in
    subst (λ (r : Result (Option Reason) EngineError). RoseIf (IsErrOf r DiskFault) before after) (sym c.ending.ensures) (ended_cause before after c.complete.result (c.complete.ensures.faults usable).faults)

pub returns-clause-usable : goal.returns-clause-usable
returns-clause-usable g c = λ usable.
    let live = g.K.Keep.live c.complete.new.ctx.heap in
    subst (λ (r : Result (Option Reason) EngineError). IfOk r (λ _. live ≡ true)) (sym c.ending.ensures) (ended_usable c.complete.result live (c.complete.ensures.faults usable).usable)

pub returns-clause-undamaged : goal.returns-clause-undamaged
returns-clause-undamaged g c =
    let Undamaged : Type 0 = (l : Language) (w : ListWorld) (x : ListTx) → ContextRuns g.H.Host.view g.K.Keep.holds g.K.Keep.live l w c.args.ctx.now c.args.host.now x → ⊥ in
    subst (λ (r : Result (Option Reason) EngineError). OnDamaged r Undamaged) (sym c.ending.ensures)
    (ended_undamaged c.complete.result Undamaged (λ never l w x is. never (goes_by g.H.Host.view g.K.Keep.holds g.K.Keep.live l w c.complete.result (completes lists x) c.args.ctx.now c.complete.new.ctx c.args.host.now c.complete.new.host x is (c.complete.ensures.runs l w x is) c.complete.ensures.leaves).sound))
