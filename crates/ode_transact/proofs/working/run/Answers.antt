use Rattle.std.proofs.Common.{IfOk, IsErrOf, Option, Result, subst, sym, ◌≡◌, true}
use Rattle.ode_host.specs.Causes.{RoseIf}
use Rattle.ode_run.specs.Contexts.{ContextRuns}
use Rattle.ode_transact.proofs.RunLaws.{ended_as, ended_cause, ended_undamaged, ended_usable}
use Rattle.ode_transact.proofs.working.run.Goals as goal
use Rattle.ode_transact.specs.Errors.{OnDamaged}
use Rattle.ode_transact.specs.Working.{EndedAs, whole_of}
use Rattle.ode_transact.specs.declared.error.EngineError.{EngineError}
use Rattle.ode_transact.specs.declared.error.EngineError.TheVariants.{DiskFault}
use Rattle.ode_value.specs.Language.{Language, ListTx, ListWorld}
use Rattle.ode_value.specs.Pasts.{lists}
use Rattle.ode_value.specs.declared.reason.Reason.{Reason}

pub returns-clause-runs : goal.returns-clause-runs
returns-clause-runs g c = λ l w x is.
    let after = ContextRuns g.H.Host.view g.K.Keep.holds g.K.Keep.live l w c.carry_whole.new.ctx c.carry_whole.new.host in
    subst (λ (r : Result (Option Reason) EngineError). IfOk r (λ ending. EndedAs ending after (whole_of c.args.work lists x))) (sym c.ending.ensures)
    (ended_as c.carry_whole.result after (whole_of c.args.work lists x) (c.carry_whole.ensures.goes l w x is).ends)

pub returns-clause-looks : goal.returns-clause-looks
returns-clause-looks g c = λ usable. (c.carry_whole.ensures.faults usable).looks

pub returns-clause-cause : goal.returns-clause-cause
returns-clause-cause g c = λ usable.
    let before = (g.H.Host.view c.args.host.now).disk_faults in
    let after = (g.H.Host.view c.carry_whole.new.host).disk_faults in
    subst (λ (r : Result (Option Reason) EngineError). RoseIf (IsErrOf r DiskFault) before after) (sym c.ending.ensures) (ended_cause before after c.carry_whole.result (c.carry_whole.ensures.faults usable).faults)

pub returns-clause-usable : goal.returns-clause-usable
returns-clause-usable g c = λ usable.
    let live = g.K.Keep.live c.carry_whole.new.ctx.heap in
    subst (λ (r : Result (Option Reason) EngineError). IfOk r (λ _. live ≡ true)) (sym c.ending.ensures) (ended_usable c.carry_whole.result live (c.carry_whole.ensures.faults usable).usable)

pub returns-clause-undamaged : goal.returns-clause-undamaged
returns-clause-undamaged g c =
    let Undamaged : Type 0 = (l : Language) (w : ListWorld) (x : ListTx) → ContextRuns g.H.Host.view g.K.Keep.holds g.K.Keep.live l w c.args.ctx.now c.args.host.now x → ⊥ in
    subst (λ (r : Result (Option Reason) EngineError). OnDamaged r Undamaged) (sym c.ending.ensures)
    (ended_undamaged c.carry_whole.result Undamaged (λ never l w x is. never (c.carry_whole.ensures.goes l w x is).sound))
