use Rattle.std.proofs.Common.{◌≡◌, ◌++◌, ◌∷◌, [], Ok, subst, sym, true}
use Rattle.std.specs.Prelude.{IfOk, IsErrOf}
use Rattle.ode_engine.proofs.FaultLaws.{leaves_sound}
use Rattle.ode_holders.specs.Opens.{taken_as}
use Rattle.ode_host.specs.Causes.{RoseIf}
use Rattle.ode_language.specs.Languages.{ode}
use Rattle.ode_machine.specs.Interleaving.{trial_open}
use Rattle.ode_transact.specs.Contexts.{ContextRuns, EndsWhere, parts_of, Ctx}
use Rattle.ode_steps.proofs.LookLaws.{rose_ok}
use Rattle.ode_steps.proofs.TryLaws.{stays_open}
use Rattle.ode_steps.proofs.TurnLaws.{fell_has, fell_rose, fell_silent, fell_tries, fell_undamaged, fell_usable}
use Rattle.ode_steps.specs.Trying.{TriedAs, context_in, fell_in}
use Rattle.ode_transact.specs.Errors.{OnDamaged}
use Rattle.ode_transact.specs.declared.error.EngineError.TheVariants as error
use Rattle.ode_value.specs.Executing.{commands}
use Rattle.ode_value.specs.Language.{ListTx, ListWorld}
use Rattle.ode_value.specs.Pasts.{lists}
use Rattle.ode_value.specs.declared.statement.Stmt.{Stmt}
use Rattle.ode_steps.proofs.trying.try_open.Goals as goal

pub returns-in-Ok-clause-tried : goal.returns-in-Ok-clause-tried
returns-in-Ok-clause-tried g c w x before runs =
    let after : Ctx g.row.K.Denot → ListTx → Type 0 = λ (ctx : Ctx g.row.K.Denot). ContextRuns g.H.Host.view g.K.Keep.holds g.K.Keep.live ode w ctx c.exec.new.host in
    stays_open before after c.exec.new.ctx c.args.taken (commands lists c.args.taken.checked x)
    (subst (λ (s : Stmt). EndsWhere (Ok tt) (after c.exec.new.ctx) (commands lists s x)) c.get.ensures (c.in-Ok.ensures.runs ode w x runs))

pub returns-in-Ok-clause-usable : goal.returns-in-Ok-clause-usable
returns-in-Ok-clause-usable g c = (c.in-Ok.ensures.faults c.requires.live).usable

pub returns-in-Ok-clause-looks : goal.returns-in-Ok-clause-looks
returns-in-Ok-clause-looks g c = (c.in-Ok.ensures.faults c.requires.live).looks

pub returns-in-Ok-clause-cause : goal.returns-in-Ok-clause-cause
returns-in-Ok-clause-cause g c = rose_ok _ _ _ _ (λ is. cc (is)) (c.in-Ok.ensures.faults c.requires.live).faults

-- it wasn't done

pub returns-in-Err-clause-tried : goal.returns-in-Err-clause-tried
returns-in-Err-clause-tried g c w x before runs =
    let after : Ctx g.row.K.Denot → ListTx → Type 0 = λ (ctx : Ctx g.row.K.Denot). ContextRuns g.H.Host.view g.K.Keep.holds g.K.Keep.live ode w ctx c.exec.new.host in
    let all = before ++ taken_as c.args.taken ∷ [] in
    subst (λ r. IfOk r (λ t. TriedAs before after t (trial_open all (commands lists c.args.taken.checked x)))) (sym c.fell.ensures)
    (subst (λ (s : Stmt). IfOk (fell_in c.exec.new.ctx c.in-Err.stop) (λ t. TriedAs before after t (trial_open all (commands lists s x)))) c.get.ensures
    (fell_tries after before all c.exec.new.ctx c.in-Err.stop (commands lists c.get.result.now x) (c.in-Err.ensures.runs ode w x runs)))

pub returns-in-Err-clause-usable : goal.returns-in-Err-clause-usable
returns-in-Err-clause-usable g c =
    subst (λ r. IfOk r (λ t. g.K.Keep.live (context_in t).heap ≡ true)) (sym c.fell.ensures)
    (fell_usable (λ ctx. g.K.Keep.live ctx.heap ≡ true) c.exec.new.ctx c.in-Err.stop (c.in-Err.ensures.faults c.requires.live).usable)

pub returns-in-Err-clause-parts : goal.returns-in-Err-clause-parts
returns-in-Err-clause-parts g c =
    subst (λ r. IfOk r (λ t. parts_of (context_in t) ≡ parts_of c.args.ctx)) (sym c.fell.ensures) (fell_has (λ ctx. parts_of ctx ≡ parts_of c.args.ctx) c.exec.new.ctx c.in-Err.stop c.in-Err.ensures.same.0)

pub returns-in-Err-clause-looks : goal.returns-in-Err-clause-looks
returns-in-Err-clause-looks g c = (c.in-Err.ensures.faults c.requires.live).looks

pub returns-in-Err-clause-cause : goal.returns-in-Err-clause-cause
returns-in-Err-clause-cause g c =
    subst (λ r. RoseIf (IsErrOf r error.DiskFault) (g.H.Host.view c.args.host.now).disk_faults (g.H.Host.view c.exec.new.host).disk_faults) (sym c.fell.ensures)
    (fell_rose c.exec.new.ctx c.in-Err.stop _ _ (c.in-Err.ensures.faults c.requires.live).faults)

pub returns-in-Err-clause-silent : goal.returns-in-Err-clause-silent
returns-in-Err-clause-silent g c =
    subst (λ r. IsErrOf r error.WriteFault → ⊥) (sym c.fell.ensures) (fell_silent c.exec.new.ctx c.in-Err.stop)

pub returns-in-Err-clause-undamaged : goal.returns-in-Err-clause-undamaged
returns-in-Err-clause-undamaged g c =
    let Undamaged : Type 0 = (w : ListWorld) (x : ListTx) → ContextRuns g.H.Host.view g.K.Keep.holds g.K.Keep.live ode w c.args.ctx c.args.host.now x → ⊥ in
    subst (λ r. OnDamaged r Undamaged) (sym c.fell.ensures)
    (fell_undamaged c.exec.new.ctx c.in-Err.stop Undamaged (λ broken w x runs.
    broken (leaves_sound c.in-Err.stop _ (c.in-Err.ensures.leaves runs.entries runs.world.world.stored.world runs.context).stays)))
