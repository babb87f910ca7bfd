use Rattle.std.proofs.Common.{rules, ◌≡◌, Err, refl}
use Rattle.std.proofs.lemmas.Result.{err_from_is_err_and}
use Rattle.ode_declare.proofs.BatchLaws.{few_joined}
use Rattle.ode_declare.proofs.TakeLaws.{damaged_as}
use Rattle.ode_declare.proofs.handing.gather.Goals as goal
use Rattle.ode_transact.proofs.DamageLaws.{memory_undamaged}
use Rattle.ode_transact.specs.declared.error.EngineError.TheVariants as engine

pub returns-clause-joined : goal.returns-clause-joined
returns-clause-joined c = record { more = c.in_ok-more.more; stands = c.in_ok-more.ensures.stands; both = c.in_ok-batch.ensures.both }

pub returns-in_err-batch-clause-undamaged : goal.returns-in_err-batch-clause-undamaged
returns-in_err-batch-clause-undamaged c =
    let p = err_from_is_err_and c.from_residual-in_err-batch.result c.from_residual-in_err-batch.ensures.1 in
    let same : c.from_residual-in_err-batch.result ≡ Err c.in_err-batch.field-0.0 = rw (p.1, p.2) refl in
    damaged_as c.joined.result c.from_residual-in_err-batch.result c.in_err-batch.field-0.0 _ _ (search rules) same c.joined.ensures.undamaged
    (λ damaged first began few. damaged (few_joined c.args.overlay.now first c.args.changes c.in_ok-more.more c.in_ok-more.ensures.changes began few))

pub returns-in_err-text-clause-undamaged : goal.returns-in_err-text-clause-undamaged
returns-in_err-text-clause-undamaged c =
    let p = err_from_is_err_and c.from_residual-in_err-text.result c.from_residual-in_err-text.ensures.1 in
    let same : c.from_residual-in_err-text.result ≡ Err engine.Memory = rw (p.1, p.2) refl in
    memory_undamaged c.from_residual-in_err-text.result _ same
