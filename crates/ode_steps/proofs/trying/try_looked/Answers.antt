use Rattle.std.proofs.Common.{◌≡◌, ◌∙◌, ℕ, List, Ok, ap, refl, subst, sym, true}
use Rattle.std.proofs.lemmas.Result.{IfOk-weaker}
use Rattle.std.specs.Prelude.{IfOk, IsErrOf}
use Rattle.ode_host.proofs.Calls.{rose_on}
use Rattle.ode_host.proofs.Moments.{looks_joined}
use Rattle.ode_host.specs.Causes.{RoseIf}
use Rattle.ode_interleaved_laws.specs.Serial.{taken_of}
use Rattle.ode_language.specs.Languages.{ode}
use Rattle.ode_machine.specs.Interleaving.{Trial, literal_objects, tries_checked, tries_simple}
use Rattle.ode_transact.specs.Contexts.{ContextRuns, parts_of, Ctx}
use Rattle.ode_schema.specs.Parts.{AreFit}
use Rattle.ode_steps.proofs.TryLaws.{tries_rules, tries_spent}
use Rattle.ode_steps.proofs.TurnLaws.{turned_has, turned_rose, turned_silent, turned_tries, turned_undamaged, turned_usable}
use Rattle.ode_steps.specs.Trying.{TriedAs, context_in}
use Rattle.ode_steps.specs.declared.trying.Tried.TheVariants as tried
use Rattle.ode_transact.proofs.DamageLaws.{damaged_so}
use Rattle.ode_transact.specs.Errors.{OnDamaged}
use Rattle.ode_transact.specs.declared.error.EngineError.TheVariants as error
use Rattle.ode_value.specs.Language.{ListTx, ListWorld}
use Rattle.ode_value.specs.Transactions.{looking}
use Rattle.ode_value.specs.declared.reason.Refusal.TheVariants as refusal
use Rattle.ode_steps.proofs.trying.try_looked.Goals as goal

pub try_checked-requires-clause-live : goal.try_checked-requires-clause-live
try_checked-requires-clause-live g c = c.in-Ok.ensures.leaves.stays

pub try_checked-requires-clause-fit : goal.try_checked-requires-clause-fit
try_checked-requires-clause-fit g c = subst AreFit (sym c.in-Ok.ensures.same) c.requires.fit

-- ---- no number is left

pub returns-then-spent-clause-tried : goal.returns-then-spent-clause-tried
returns-then-spent-clause-tried g c w x own is runs =
    subst (λ (t : Trial). TriedAs (taken_of own) (λ ctx. ContextRuns g.H.Host.view g.K.Keep.holds g.K.Keep.live ode w ctx c.args.host.now) (tried.Refused c.args.ctx refusal.NumbersSpent) t)
    (tries_spent own c.args.spent c.args.s.now x c.if-spent.true) (refl, runs)

-- ---- it was checked

pub returns-in-Ok-clause-tried : goal.returns-in-Ok-clause-tried
returns-in-Ok-clause-tried g c w x own is runs =
    let y = looking (literal_objects ode c.args.s.now) x in
    let after : Ctx g.row.K.Denot → ListTx → Type 0 = λ (ctx : Ctx g.row.K.Denot). ContextRuns g.H.Host.view g.K.Keep.holds g.K.Keep.live ode w ctx c.try_checked.new.host in
    subst (λ (t : Trial). IfOk c.try_checked.result (λ q. TriedAs (taken_of own) after q t))
    (ap (λ (among : List ℕ). tries_checked ode own among y c.in-Ok.checked) c.requires.literals
    ∙ tries_rules own c.args.spent c.args.s.now x (Ok c.in-Ok.checked) c.if-spent.false (c.in-Ok.ensures.answers w y runs))
    (c.try_checked.ensures.tried w y own is (c.in-Ok.ensures.keeps w y runs).stays)

pub returns-in-Ok-clause-parts : goal.returns-in-Ok-clause-parts
returns-in-Ok-clause-parts g c = IfOk-weaker c.try_checked.result _ _ (λ t is. is ∙ c.in-Ok.ensures.same) c.try_checked.ensures.parts

pub returns-in-Ok-clause-looks : goal.returns-in-Ok-clause-looks
returns-in-Ok-clause-looks g c = looks_joined _ _ _ c.in-Ok.ensures.leaves.looks c.try_checked.ensures.looks

pub returns-in-Ok-clause-cause : goal.returns-in-Ok-clause-cause
returns-in-Ok-clause-cause g c = rose_on _ _ _ _ _ (λ is. cc (is)) c.in-Ok.ensures.leaves.faults c.try_checked.ensures.cause

pub returns-in-Ok-clause-undamaged : goal.returns-in-Ok-clause-undamaged
returns-in-Ok-clause-undamaged g c =
    damaged_so c.try_checked.result _ _ (λ never w x runs. never w x (c.in-Ok.ensures.keeps w x runs).stays) c.try_checked.ensures.undamaged

-- ---- it wasn't

pub returns-in-Err-clause-tried : goal.returns-in-Err-clause-tried
returns-in-Err-clause-tried g c w x own is runs =
    let y = looking (literal_objects ode c.args.s.now) x in
    let after : Ctx g.row.K.Denot → ListTx → Type 0 = λ (ctx : Ctx g.row.K.Denot). ContextRuns g.H.Host.view g.K.Keep.holds g.K.Keep.live ode w ctx c.checked.new.host in
    subst (λ r. IfOk r (λ q. TriedAs (taken_of own) after q (tries_simple ode own c.args.spent c.args.s.now x))) (sym c.turned.ensures)
    (turned_tries after (taken_of own) own c.args.spent c.args.s.now x c.checked.new.ctx c.in-Err.how c.if-spent.false (c.in-Err.ensures.answers w y runs) (c.in-Err.ensures.keeps w y runs))

pub returns-in-Err-clause-usable : goal.returns-in-Err-clause-usable
returns-in-Err-clause-usable g c =
    subst (λ r. IfOk r (λ q. g.K.Keep.live (context_in q).heap ≡ true)) (sym c.turned.ensures)
    (turned_usable (λ ctx. g.K.Keep.live ctx.heap ≡ true) c.checked.new.ctx c.in-Err.how c.in-Err.ensures.leaves.stays)

pub returns-in-Err-clause-parts : goal.returns-in-Err-clause-parts
returns-in-Err-clause-parts g c =
    subst (λ r. IfOk r (λ q. parts_of (context_in q) ≡ parts_of c.args.ctx)) (sym c.turned.ensures)
    (turned_has (λ ctx. parts_of ctx ≡ parts_of c.args.ctx) c.checked.new.ctx c.in-Err.how c.in-Err.ensures.same)

pub returns-in-Err-clause-looks : goal.returns-in-Err-clause-looks
returns-in-Err-clause-looks g c = c.in-Err.ensures.leaves.looks

pub returns-in-Err-clause-cause : goal.returns-in-Err-clause-cause
returns-in-Err-clause-cause g c =
    subst (λ r. RoseIf (IsErrOf r error.DiskFault) (g.H.Host.view c.args.host.now).disk_faults (g.H.Host.view c.checked.new.host).disk_faults) (sym c.turned.ensures)
    (turned_rose c.checked.new.ctx c.in-Err.how _ _ c.in-Err.ensures.leaves.faults)

pub returns-in-Err-clause-silent : goal.returns-in-Err-clause-silent
returns-in-Err-clause-silent g c = subst (λ r. IsErrOf r error.WriteFault → ⊥) (sym c.turned.ensures) (turned_silent c.checked.new.ctx c.in-Err.how c.in-Err.ensures.leaves.silent)

pub returns-in-Err-clause-undamaged : goal.returns-in-Err-clause-undamaged
returns-in-Err-clause-undamaged g c =
    let Undamaged : Type 0 = (w : ListWorld) (x : ListTx) → ContextRuns g.H.Host.view g.K.Keep.holds g.K.Keep.live ode w c.args.ctx c.args.host.now x → ⊥ in
    subst (λ r. OnDamaged r Undamaged) (sym c.turned.ensures)
    (turned_undamaged c.checked.new.ctx c.in-Err.how Undamaged (λ broken w x runs. broken (c.in-Err.ensures.keeps w x runs).sound))
