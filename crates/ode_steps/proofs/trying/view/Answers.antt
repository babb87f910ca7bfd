use Rattle.std.proofs.Common.{rules, ◌<◌, ◌∙◌}
use Rattle.ode_engine.proofs.FaultLaws.{damaged_as}
use Rattle.ode_host.proofs.Calls.{rose_on}
use Rattle.ode_host.proofs.Moments.{looks_joined}
use Rattle.ode_language.specs.Languages.{ode}
use Rattle.ode_overlay.specs.declared.origin.Origin.TheVariants as from
use Rattle.ode_transact.specs.Contexts.{Ctx}
use Rattle.ode_steps.proofs.LookLaws.{rose_error, rose_ok}
use Rattle.ode_transact.proofs.BeginLaws.{damaged_before}
use Rattle.ode_transact.specs.Resting.{IsAtRest}
use Rattle.ode_transact.specs.Working.{IsFromFront}
use Rattle.ode_value.specs.Language.{Language, ListWorld}
use Rattle.ode_value.specs.Limits.{transaction_limit}
use Rattle.ode_value.specs.Transactions.{Script, begun}
use Rattle.ode_steps.proofs.trying.view.Goals as goal

pub returns-in-Ok-clause-runs : goal.returns-in-Ok-clause-runs
returns-in-Ok-clause-runs g c w is = c.in-Ok.ensures.runs w (begun Script w) (c.in_ok-ctx.ensures.begun ode w is tt)

pub returns-in-Ok-clause-parts : goal.returns-in-Ok-clause-parts
returns-in-Ok-clause-parts g c = c.take_all.ensures.same ∙ c.in_ok-ctx.ensures.parts

pub returns-in-Ok-clause-looks : goal.returns-in-Ok-clause-looks
returns-in-Ok-clause-looks g c = looks_joined _ _ _ c.begin.ensures.looks c.take_all.ensures.looks

pub returns-in-Ok-clause-cause : goal.returns-in-Ok-clause-cause
returns-in-Ok-clause-cause g c = rose_ok _ _ _ _ (λ is. cc (is)) (rose_on _ _ _ _ _ (λ is. cc (is)) c.in_ok-ctx.ensures.cause c.in-Ok.ensures.cause)

-- an error

pub returns-in-Err-clause-looks : goal.returns-in-Err-clause-looks
returns-in-Err-clause-looks g c = looks_joined _ _ _ c.begin.ensures.looks c.take_all.ensures.looks

pub returns-in-Err-clause-cause : goal.returns-in-Err-clause-cause
returns-in-Err-clause-cause g c =
    rose_error c.in-Err.error _ _ _ (λ is. cc (is)) (λ is. cc (is)) (rose_on _ _ _ _ _ (λ is. cc (is)) c.in_ok-ctx.ensures.cause c.in-Err.ensures.cause)

pub returns-in-Err-clause-silent : goal.returns-in-Err-clause-silent
returns-in-Err-clause-silent g c = λ is. c.in-Err.ensures.silent (cc (is))

pub returns-in-Err-clause-undamaged : goal.returns-in-Err-clause-undamaged
returns-in-Err-clause-undamaged g c =
    damaged_as c.in-Err.error _ _ c.in-Err.ensures.undamaged (λ never w is left. never w (begun Script w) (c.in_ok-ctx.ensures.begun ode w is tt))

pub returns-in_err-ctx-clause-undamaged : goal.returns-in_err-ctx-clause-undamaged
returns-in_err-ctx-clause-undamaged g c =
    let Before : Type 0 = (l : Language) (w : ListWorld) → IsAtRest g.H.Host.view g.K.Keep.holds g.K.Keep.live l w c.args.rest c.args.host.now → IsFromFront from.Script w → w.bones.transaction < transaction_limit → ⊥ in
    let Undamaged : Type 0 = (w : ListWorld) → IsAtRest g.H.Host.view g.K.Keep.holds g.K.Keep.live ode w c.args.rest c.args.host.now → w.bones.transaction < transaction_limit → ⊥ in
    damaged_before (Ctx g.row.K.Denot) (Ctx g.row.K.Denot) c.from_residual.result c.in_err-ctx.field-0.0 (search rules) Before Undamaged (λ damaged w is left. damaged ode w is tt left) c.in_err-ctx.ensures.undamaged
