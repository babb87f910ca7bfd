use Rattle.std.proofs.Common.{◌≡◌, ◌∙◌, Ok, Err, subst, sym, true}
use Rattle.ode_engine.proofs.FaultLaws.{fault_silent, leaves_sound}
use Rattle.ode_interpreter.specs.declared.stop.Stop.TheVariants as stop
use Rattle.ode_language.specs.Languages.{ode}
use Rattle.ode_transact.specs.Contexts.{ContextRuns, EndsWhere}
use Rattle.ode_steps.proofs.LookLaws.{rose_fault, rose_ok}
use Rattle.ode_steps.proofs.TryLaws.{done_again, fell_again, looked_runs}
use Rattle.ode_transact.proofs.DamageLaws.{fault_undamaged}
use Rattle.ode_value.specs.Executing.{commands}
use Rattle.ode_value.specs.Pasts.{lists}
use Rattle.ode_value.specs.Transactions.{looking}
use Rattle.ode_value.specs.declared.statement.Stmt.{Stmt}
use Rattle.ode_steps.proofs.trying.take_again.Goals as goal

pub returns-in-Ok-clause-runs : goal.returns-in-Ok-clause-runs
returns-in-Ok-clause-runs g c w x runs =
    let after = ContextRuns g.H.Host.view g.K.Keep.holds g.K.Keep.live ode w c.exec.new.ctx c.exec.new.host in
    let y = looking c.args.taken.now.literals x in
    let looked = looked_runs (λ ctx. ContextRuns g.H.Host.view g.K.Keep.holds g.K.Keep.live ode w ctx c.args.host.now y) c.args.ctx.now c.look_at.new.ctx c.args.taken.now.literals c.as_slice.result.now c.as_slice.ensures c.in_ok-look_at.ensures.looked
    (c.contexts_look.ensures ode w c.args.ctx.now c.args.host.now x c.args.taken.now.literals runs) in
    done_again after (commands lists c.args.taken.now.checked y) (subst (λ (s : Stmt). EndsWhere (Ok tt) after (commands lists s y)) c.get.ensures (c.in-Ok.ensures.runs ode w y looked))

pub returns-in-Ok-clause-usable : goal.returns-in-Ok-clause-usable
returns-in-Ok-clause-usable g c = (c.in-Ok.ensures.faults (subst (λ k. g.K.Keep.live k ≡ true) (sym c.look_at.ensures.keeper) c.requires.live)).usable

pub returns-in-Ok-clause-looks : goal.returns-in-Ok-clause-looks
returns-in-Ok-clause-looks g c = (c.in-Ok.ensures.faults (subst (λ k. g.K.Keep.live k ≡ true) (sym c.look_at.ensures.keeper) c.requires.live)).looks

pub returns-in-Ok-clause-cause : goal.returns-in-Ok-clause-cause
returns-in-Ok-clause-cause g c = rose_ok _ _ _ _ (λ is. cc (is)) (c.in-Ok.ensures.faults (subst (λ k. g.K.Keep.live k ≡ true) (sym c.look_at.ensures.keeper) c.requires.live)).faults

pub returns-in-Ok-clause-same : goal.returns-in-Ok-clause-same
returns-in-Ok-clause-same g c = c.in-Ok.ensures.same.0 ∙ c.look_at.ensures.same

pub returns-in-Err-Abort-clause-runs : goal.returns-in-Err-Abort-clause-runs
returns-in-Err-Abort-clause-runs g c w x runs =
    let after = ContextRuns g.H.Host.view g.K.Keep.holds g.K.Keep.live ode w c.exec.new.ctx c.exec.new.host in
    let y = looking c.args.taken.now.literals x in
    let looked = looked_runs (λ ctx. ContextRuns g.H.Host.view g.K.Keep.holds g.K.Keep.live ode w ctx c.args.host.now y) c.args.ctx.now c.look_at.new.ctx c.args.taken.now.literals c.as_slice.result.now c.as_slice.ensures c.in_ok-look_at.ensures.looked
    (c.contexts_look.ensures ode w c.args.ctx.now c.args.host.now x c.args.taken.now.literals runs) in
    fell_again after c.in-Err-Abort.field-0-0 (commands lists c.args.taken.now.checked y)
    (subst (λ (s : Stmt). EndsWhere (Err (stop.Abort c.in-Err-Abort.field-0-0)) after (commands lists s y)) c.get.ensures (rw c.in-Err-Abort.field-0-is at (c.in-Err-Abort.ensures.runs ode w y looked)))

pub returns-in-Err-Abort-clause-usable : goal.returns-in-Err-Abort-clause-usable
returns-in-Err-Abort-clause-usable g c = (rw c.in-Err-Abort.field-0-is at (c.in-Err-Abort.ensures.faults (subst (λ k. g.K.Keep.live k ≡ true) (sym c.look_at.ensures.keeper) c.requires.live))).usable

pub returns-in-Err-Abort-clause-looks : goal.returns-in-Err-Abort-clause-looks
returns-in-Err-Abort-clause-looks g c = (c.in-Err-Abort.ensures.faults (subst (λ k. g.K.Keep.live k ≡ true) (sym c.look_at.ensures.keeper) c.requires.live)).looks

pub returns-in-Err-Abort-clause-cause : goal.returns-in-Err-Abort-clause-cause
returns-in-Err-Abort-clause-cause g c =
    rose_ok _ _ _ _ (λ is. cc (is, c.in-Err-Abort.field-0-is)) (c.in-Err-Abort.ensures.faults (subst (λ k. g.K.Keep.live k ≡ true) (sym c.look_at.ensures.keeper) c.requires.live)).faults

pub returns-in-Err-Abort-clause-same : goal.returns-in-Err-Abort-clause-same
returns-in-Err-Abort-clause-same g c = c.in-Err-Abort.ensures.same.0 ∙ c.look_at.ensures.same

pub returns-in-Err-clause-looks : goal.returns-in-Err-clause-looks
returns-in-Err-clause-looks g c = (c.in-Err.ensures.faults (subst (λ k. g.K.Keep.live k ≡ true) (sym c.look_at.ensures.keeper) c.requires.live)).looks

pub returns-in-Err-clause-cause : goal.returns-in-Err-clause-cause
returns-in-Err-clause-cause g c =
    let faults = c.in-Err.ensures.faults (subst (λ k. g.K.Keep.live k ≡ true) (sym c.look_at.ensures.keeper) c.requires.live) in
    rw c.fault_of.ensures (rose_fault c.in-Err.stop _ _ _ (λ is. cc (is)) (λ is. cc (is)) faults.faults)

pub returns-in-Err-clause-silent : goal.returns-in-Err-clause-silent
returns-in-Err-clause-silent g c = λ is. fault_silent c.in-Err.stop (sym c.fault_of.ensures ∙ cc (is))

pub returns-in-Err-clause-same : goal.returns-in-Err-clause-same
returns-in-Err-clause-same g c = c.in-Err.ensures.same.0 ∙ c.look_at.ensures.same

pub returns-in-Err-clause-undamaged : goal.returns-in-Err-clause-undamaged
returns-in-Err-clause-undamaged g c =
    fault_undamaged (Unit {0}) c.fault_of.result c.in-Err.stop c.fault_of.ensures _ (λ broken w x runs.
    let y = looking c.args.taken.now.literals x in
    let looked = looked_runs (λ ctx. ContextRuns g.H.Host.view g.K.Keep.holds g.K.Keep.live ode w ctx c.args.host.now y) c.args.ctx.now c.look_at.new.ctx c.args.taken.now.literals c.as_slice.result.now c.as_slice.ensures c.in_ok-look_at.ensures.looked
    (c.contexts_look.ensures ode w c.args.ctx.now c.args.host.now x c.args.taken.now.literals runs) in
    broken (leaves_sound c.in-Err.stop _ (c.in-Err.ensures.leaves looked.entries looked.world.world.stored.world looked.context).stays))
