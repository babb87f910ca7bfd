use Rattle.std.proofs.Common.{rules, ◌≡◌, Err, refl, subst, sym}
use Rattle.std.proofs.lemmas.Result.{err_from_is_err_and}
use Rattle.ode_declare.proofs.TakeLaws.{damaged_as}
use Rattle.ode_declare.proofs.handing.settle.Goals as goal

pub returns-in_err-hand_over-clause-undamaged : goal.returns-in_err-hand_over-clause-undamaged
returns-in_err-hand_over-clause-undamaged g c =
    let p = err_from_is_err_and c.from_residual.result c.from_residual.ensures.1 in
    let same : c.from_residual.result ≡ Err c.in_err-hand_over.field-0.0 = rw (p.1, p.2) refl in
    damaged_as c.hand_over.result c.from_residual.result c.in_err-hand_over.field-0.0 _ _ (search rules) same c.hand_over.ensures.undamaged (λ damaged entries records light.
    damaged entries (subst (λ k. g.K.Keep.holds k (g.H.Host.view c.args.host.now) entries) (sym c.new-heap.ensures) records) light)
