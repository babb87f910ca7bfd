use Rattle.std.proofs.Common.{◌≡◌, ◌∙◌, Err, ap, sym}
use Rattle.ode_host.proofs.Calls.{rose_as}
use Rattle.ode_interpreter.specs.declared.stop.Stop.{Stop}
use Rattle.ode_interpreter.specs.declared.stop.Stop.TheVariants as stop
use Rattle.ode_run.specs.Contexts.{ContextRuns, tables_of}
use Rattle.ode_transact.proofs.DamageLaws.{fault_undamaged, sound_stop}
use Rattle.ode_transact.proofs.EndingLaws.{ends_over, fault_disk}
use Rattle.ode_transact.proofs.ending.changes_of.Goals as goal
use Rattle.ode_transact.specs.Errors.{fault_of}
use Rattle.ode_transact.specs.declared.error.EngineError.{EngineError}
use Rattle.ode_transact.specs.declared.error.EngineError.TheVariants as engine
use Rattle.ode_keep.specs.Entries.{Changes, applied}
use Rattle.ode_overlay.specs.Settling.{growth_told}
use Rattle.ode_value.specs.Language.{Language, ListTx, ListWorld}

pub returns-in-Ok-clause-settles : goal.returns-in-Ok-clause-settles
returns-in-Ok-clause-settles g c = λ l w t is.
    ends_over l (tables_of c.args.ctx.now) w (growth_told c.settle.new.ctx.classes c.settle.new.ctx.overlay) (applied c.in-Ok.batch is.entries) c.settle.new.ctx.text t c.args.ending.now c.is_none.result c.is_none.ensures
    (c.in-Ok.ensures.commit l w t is) (λ reason. c.in-Ok.ensures.abort l w t is reason)

pub returns-in-Ok-clause-context : goal.returns-in-Ok-clause-context
returns-in-Ok-clause-context g c = λ l w t is. (c.in-Ok.ensures.leaves is.entries is.world.world.stored.world is.context).stays

pub returns-in-Ok-clause-met : goal.returns-in-Ok-clause-met
returns-in-Ok-clause-met g c = λ l w t is. c.in-Ok.ensures.met l w t c.args.ending.now is c.is_none.ensures

pub returns-in-Ok-clause-usable : goal.returns-in-Ok-clause-usable
returns-in-Ok-clause-usable g c = (c.in-Ok.ensures.faults c.requires.live).usable

pub returns-in-Ok-clause-looks : goal.returns-in-Ok-clause-looks
returns-in-Ok-clause-looks g c = (c.in-Ok.ensures.faults c.requires.live).looks

pub returns-in-Ok-clause-cause : goal.returns-in-Ok-clause-cause
returns-in-Ok-clause-cause g c = rose_as _ _ _ _ (λ failed. cc (failed)) (λ failed. cc (failed)) (c.in-Ok.ensures.faults c.requires.live).faults

pub returns-in-Err-clause-looks : goal.returns-in-Err-clause-looks
returns-in-Err-clause-looks g c = (c.in-Err.ensures.faults c.requires.live).looks

pub returns-in-Err-clause-cause : goal.returns-in-Err-clause-cause
returns-in-Err-clause-cause g c =
    rose_as _ _ _ _
    (λ failed. let why : c.in-Err.stop ≡ stop.DiskFault = cc (failed) in ap (λ (e : EngineError). Err e) (c.fault_of.ensures ∙ ap (λ (s : Stop). fault_of s) why))
    (λ failed. let why : c.fault_of.result ≡ engine.DiskFault = cc (failed) in ap (λ (s : Stop). Err s) (fault_disk c.in-Err.stop (sym c.fault_of.ensures ∙ why)))
    (c.in-Err.ensures.faults c.requires.live).faults

pub returns-in-Err-clause-undamaged : goal.returns-in-Err-clause-undamaged
returns-in-Err-clause-undamaged g c =
    let Undamaged : Type 0 = (l : Language) (w : ListWorld) (t : ListTx) → ContextRuns g.H.Host.view g.K.Keep.holds g.K.Keep.live l w c.args.ctx.now c.args.host.now t → ⊥ in
    fault_undamaged Changes c.fault_of.result c.in-Err.stop c.fault_of.ensures Undamaged
    (λ never l w t is. never (sound_stop Changes c.in-Err.stop _ (c.in-Err.ensures.leaves is.entries is.world.world.stored.world is.context).stays))
