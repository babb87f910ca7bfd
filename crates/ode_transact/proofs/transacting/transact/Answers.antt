use Rattle.std.proofs.Common.{rules, ◌∙◌, ◌<◌, ◌∷◌, [], Option, ap, subst, sym}
use Rattle.std.proofs.lemmas.Result.{IfOk-weaker}
use Rattle.ode_host.proofs.Moments.{looks_joined}
use Rattle.ode_overlay_laws.specs.Standing.{origin_as}
use Rattle.ode_opened.specs.declared.opened.Opened.{Opened}
use Rattle.ode_run.specs.Contexts.{ContextRuns}
use Rattle.ode_run.specs.declared.context.Ctx.{Ctx}
use Rattle.ode_schema.specs.Parts.{AreFit}
use Rattle.ode_transact.proofs.BeginLaws.{damaged_before}
use Rattle.ode_transact.proofs.DamageLaws.{damaged_so}
use Rattle.ode_transact.proofs.EndingLaws.{fails_as, looks_then, none_rose}
use Rattle.ode_transact.proofs.TransactLaws.{transaction_settles}
use Rattle.ode_transact.proofs.TransactSteps.{transact_done, transact_leaves, transact_looks}
use Rattle.ode_transact.proofs.LogLaws.{disk_looks, logs_as}
use Rattle.ode_transact.proofs.OutputLaws.{counted_as}
use Rattle.ode_transact.specs.Logging.{Logs}
use Rattle.ode_transact.specs.Output.{heard_of}
use Rattle.ode_transact.specs.Resting.{IsAtRest}
use Rattle.ode_transact.specs.Working.{IsFromFront, settled_by, work_of}
use Rattle.ode_good_laws.specs.Well.{IsWell}
use Rattle.ode_value.specs.Language.{Language, ListTx, ListWorld}
use Rattle.ode_value.specs.Limits.{transaction_limit}
use Rattle.ode_value.specs.Objects.{Histories, Starts}
use Rattle.ode_value.specs.Pasts.{lists}
use Rattle.ode_value.specs.Settling.{Settled, transaction}
use Rattle.ode_value.specs.Transactions.{begun}
use Rattle.ode_value.specs.declared.reason.Reason.{Reason}
use Rattle.ode_transact.proofs.transacting.transact.Goals as goal

pub returns-in_err-ctx-clause-any_moment : goal.returns-in_err-ctx-clause-any_moment
returns-in_err-ctx-clause-any_moment g c = λ l w said well rest front behind printed.
    transact_looks g.H.Host.view g.K.Keep.holds g.K.Keep.live g.K.Keep.means g.met.K.Keep.stands g.met.H.Host.text_stands l w c.args.rest c.args.host.now rest well
    (heard_of c.args.output.now.quiet (transaction lists (origin_as c.args.origin) (work_of c.args.work lists) w)) said printed _ c.begin.ensures.looks

pub returns-in_err-ctx-clause-leaves : goal.returns-in_err-ctx-clause-leaves
returns-in_err-ctx-clause-leaves g c =
    fails_as c.begin.result c.from_residual.result c.in_err-ctx.field-0.0 _ _ (search rules) (search rules) c.begin.ensures.looks c.begin.ensures.cause c.begin.ensures.silent

pub returns-in_err-ending-clause-any_moment : goal.returns-in_err-ending-clause-any_moment
returns-in_err-ending-clause-any_moment g c = λ l w said well rest front behind printed.
    transact_looks g.H.Host.view g.K.Keep.holds g.K.Keep.live g.K.Keep.means g.met.K.Keep.stands g.met.H.Host.text_stands l w c.args.rest c.args.host.now rest well
    (heard_of c.args.output.now.quiet (transaction lists (origin_as c.args.origin) (work_of c.args.work lists) w)) said printed _
    (looks_joined _ _ _ c.begin.ensures.looks (c.run.ensures.looks c.in_ok-ctx.ensures.usable))

pub returns-in_err-ending-clause-leaves : goal.returns-in_err-ending-clause-leaves
returns-in_err-ending-clause-leaves g c =
    looks_then _ _ (g.H.Host.view c.args.host.now) (g.H.Host.view c.begin.new.host) (g.H.Host.view c.run.new.host) c.begin.ensures.looks
    (none_rose _ _ _ (λ failed. cc (failed)) c.in_ok-ctx.ensures.cause)
    (fails_as c.run.result c.from_residual-in_err-ending.result c.in_err-ending.field-0.0 _ _ (search rules) (search rules) (c.run.ensures.looks c.in_ok-ctx.ensures.usable) (c.run.ensures.cause c.in_ok-ctx.ensures.usable) c.run.ensures.silent)

pub end-requires : goal.end-requires
end-requires g c = record { live = c.in_ok-ending.ensures.usable c.in_ok-ctx.ensures.usable; fit = subst AreFit (sym (c.run.ensures.same.0 ∙ c.in_ok-ctx.ensures.parts)) c.requires.fit }

pub returns-clause-done : goal.returns-clause-done
returns-clause-done g c = λ l w rest front well.
    let begins = c.in_ok-ctx.ensures.begun l w rest front in
    let so = transaction_settles (origin_as c.args.origin) (work_of c.args.work lists) w c.in_ok-ending.ending (ContextRuns g.H.Host.view g.K.Keep.holds g.K.Keep.live l w c.run.new.ctx c.run.new.host)
    (c.in_ok-ending.ensures.runs l w (begun (origin_as c.args.origin) w) begins) in
    transact_done c.end.result (λ v after. IsAtRest g.H.Host.view g.K.Keep.holds g.K.Keep.live l v after c.end.new.host) l c.args.output.now.quiet (transaction lists (origin_as c.args.origin) (work_of c.args.work lists) w) c.in_ok-ending.ending so.0
    (g.H.Host.view c.args.host.now) (g.H.Host.view c.run.new.host) (g.H.Host.view c.end.new.host) so.2 (c.end.ensures.done l w so.0 so.1) (c.end.ensures.printed l w so.0 so.1)
    (looks_joined _ _ _ c.begin.ensures.looks (c.run.ensures.looks c.in_ok-ctx.ensures.usable)) well

pub returns-clause-counts : goal.returns-clause-counts
returns-clause-counts g c = λ l w rest front well.
    let begins = c.in_ok-ctx.ensures.begun l w rest front in
    let so = transaction_settles (origin_as c.args.origin) (work_of c.args.work lists) w c.in_ok-ending.ending (ContextRuns g.H.Host.view g.K.Keep.holds g.K.Keep.live l w c.run.new.ctx c.run.new.host)
    (c.in_ok-ending.ensures.runs l w (begun (origin_as c.args.origin) w) begins) in
    counted_as c.end.result c.args.output.now c.end.new.output _ _ (ap (λ (v : Settled Histories Starts). v.1) (sym so.2)) (c.end.ensures.counts l w so.0 so.1)

pub returns-clause-any_moment : goal.returns-clause-any_moment
returns-clause-any_moment g c = λ l w said well rest front behind printed.
    let begins = c.in_ok-ctx.ensures.begun l w rest front in
    let looks = looks_joined _ _ _ c.begin.ensures.looks (c.run.ensures.looks c.in_ok-ctx.ensures.usable) in
    let so = transaction_settles (origin_as c.args.origin) (work_of c.args.work lists) w c.in_ok-ending.ending (ContextRuns g.H.Host.view g.K.Keep.holds g.K.Keep.live l w c.run.new.ctx c.run.new.host)
    (c.in_ok-ending.ensures.runs l w (begun (origin_as c.args.origin) w) begins) in
    transact_leaves g.H.Host.view g.K.Keep.holds g.K.Keep.live g.K.Keep.means g.met.K.Keep.stands g.met.H.Host.text_stands l w c.args.rest c.args.host.now rest well
    (heard_of c.args.output.now.quiet (transaction lists (origin_as c.args.origin) (work_of c.args.work lists) w)) said printed (heard_of c.args.output.now.quiet (settled_by c.in_ok-ending.ending so.0)) (g.H.Host.view c.run.new.host) (g.H.Host.view c.end.new.host)
    (ap (λ (v : Settled Histories Starts). heard_of c.args.output.now.quiet v) so.2) looks
    (c.end.ensures.any_moment l w so.0 said well so.1 (subst (λ (v : Settled Histories Starts). IsWell l v.0) so.2 behind) (looks.text ∙ printed))

pub returns-clause-parts : goal.returns-clause-parts
returns-clause-parts g c = IfOk-weaker c.end.result _ _ (λ after is. is ∙ c.run.ensures.same.0 ∙ c.in_ok-ctx.ensures.parts) c.end.ensures.parts

pub returns-clause-leaves : goal.returns-clause-leaves
returns-clause-leaves g c =
    looks_then _ _ (g.H.Host.view c.args.host.now) (g.H.Host.view c.run.new.host) (g.H.Host.view c.end.new.host)
    (looks_joined _ _ _ c.begin.ensures.looks (c.run.ensures.looks c.in_ok-ctx.ensures.usable))
    (none_rose _ _ _ (λ failed. cc (failed)) (c.in_ok-ending.ensures.cause c.in_ok-ctx.ensures.usable) ∙ none_rose _ _ _ (λ failed. cc (failed)) c.in_ok-ctx.ensures.cause)
    c.end.ensures.leaves

pub returns-in_err-ctx-clause-undamaged : goal.returns-in_err-ctx-clause-undamaged
returns-in_err-ctx-clause-undamaged g c =
    let Before : Type 0 = (l : Language) (w : ListWorld) → IsAtRest g.H.Host.view g.K.Keep.holds g.K.Keep.live l w c.args.rest c.args.host.now → IsFromFront c.args.origin w → w.bones.transaction < transaction_limit → ⊥ in
    let Undamaged : Type 0 = (l : Language) (w : ListWorld) → IsWell l w → IsAtRest g.H.Host.view g.K.Keep.holds g.K.Keep.live l w c.args.rest c.args.host.now → IsFromFront c.args.origin w → w.bones.transaction < transaction_limit
    → IsWell l (transaction lists (origin_as c.args.origin) (work_of c.args.work lists) w).0 → ⊥ in
    damaged_before (Ctx g.row.K.Denot) (Opened g.row.K.Denot) c.from_residual.result c.in_err-ctx.field-0.0 (search rules) Before Undamaged (λ damaged l w well rest front left behind. damaged l w rest front left) c.in_err-ctx.ensures.undamaged

pub returns-in_err-ending-clause-undamaged : goal.returns-in_err-ending-clause-undamaged
returns-in_err-ending-clause-undamaged g c =
    let Before : Type 0 = (l : Language) (w : ListWorld) (x : ListTx) → ContextRuns g.H.Host.view g.K.Keep.holds g.K.Keep.live l w c.in_ok-ctx.ctx c.begin.new.host x → ⊥ in
    let Undamaged : Type 0 = (l : Language) (w : ListWorld) → IsWell l w → IsAtRest g.H.Host.view g.K.Keep.holds g.K.Keep.live l w c.args.rest c.args.host.now → IsFromFront c.args.origin w → w.bones.transaction < transaction_limit
    → IsWell l (transaction lists (origin_as c.args.origin) (work_of c.args.work lists) w).0 → ⊥ in
    damaged_before (Option Reason) (Opened g.row.K.Denot) c.from_residual-in_err-ending.result c.in_err-ending.field-0.0 (search rules) Before Undamaged
    (λ damaged l w well rest front left behind. damaged l w (begun (origin_as c.args.origin) w) (c.in_ok-ctx.ensures.begun l w rest front)) c.in_err-ending.ensures.undamaged

pub returns-clause-undamaged : goal.returns-clause-undamaged
returns-clause-undamaged g c =
    let Before : Type 0 = (l : Language) (w : ListWorld) (t : ListTx) → ContextRuns g.H.Host.view g.K.Keep.holds g.K.Keep.live l w c.run.new.ctx c.run.new.host t → IsWell l (settled_by c.in_ok-ending.ending t).0 → ⊥ in
    let Undamaged : Type 0 = (l : Language) (w : ListWorld) → IsWell l w → IsAtRest g.H.Host.view g.K.Keep.holds g.K.Keep.live l w c.args.rest c.args.host.now → IsFromFront c.args.origin w → w.bones.transaction < transaction_limit
    → IsWell l (transaction lists (origin_as c.args.origin) (work_of c.args.work lists) w).0 → ⊥ in
    damaged_so c.end.result Before Undamaged (λ damaged l w well rest front left behind.
    let begins = c.in_ok-ctx.ensures.begun l w rest front in
    let so = transaction_settles (origin_as c.args.origin) (work_of c.args.work lists) w c.in_ok-ending.ending (ContextRuns g.H.Host.view g.K.Keep.holds g.K.Keep.live l w c.run.new.ctx c.run.new.host)
    (c.in_ok-ending.ensures.runs l w (begun (origin_as c.args.origin) w) begins) in
    damaged l w so.0 so.1 (subst (λ (v : Settled Histories Starts). IsWell l v.0) so.2 behind))
    c.end.ensures.undamaged

pub returns-clause-logs : goal.returns-clause-logs
returns-clause-logs g c = λ l w entries rest front disk well.
    let begins = c.in_ok-ctx.ensures.begun l w rest front in
    let looks = looks_joined _ _ _ c.begin.ensures.looks (c.run.ensures.looks c.in_ok-ctx.ensures.usable) in
    let so = transaction_settles (origin_as c.args.origin) (work_of c.args.work lists) w c.in_ok-ending.ending (ContextRuns g.H.Host.view g.K.Keep.holds g.K.Keep.live l w c.run.new.ctx c.run.new.host)
    (c.in_ok-ending.ensures.runs l w (begun (origin_as c.args.origin) w) begins) in
    logs_as c.end.result (λ (v : Settled Histories Starts). Logs g.K.Keep.means l w entries (v ∷ []) c.args.log.now c.end.new.log (g.H.Host.view c.end.new.host)) _ _ (sym so.2)
    (c.end.ensures.logs l w so.0 entries so.1 (subst (λ (v : Settled Histories Starts). IsWell l v.0) so.2 well) (disk_looks g.K.Keep.means entries _ (g.H.Host.view c.run.new.host) looks disk))
