use Rattle.std.proofs.Common.{◌≤◌, subst}
use Rattle.std.proofs.lemmas.Result.{err_from_is_err_and}
use Rattle.ode_value.specs.Limits.{state_limit}
use Rattle.ode_same.specs.Differing.{either}
use Rattle.ode_same.proofs.VerdictLaws.{allowed, cause-first, cause-second, over-first, over-second, same-symbols, verdict}
use Rattle.ode_table.specs.Built.{IsBuilt}
use Rattle.ode_same.proofs.comparing.same_over.Goals as goal

pub compare-requires : goal.compare-requires
compare-requires c =
    let e = c.args.e.now in
    let f = c.args.f.now in
    let first : IsBuilt e (either e f) c.in_ok-first.first = c.in_ok-first.ensures.built (either e f) (over-first e f c.args.a.now c.requires.alphabet) in
    let second : IsBuilt f (either e f) c.in_ok-second.second = c.in_ok-second.ensures.built (either e f) (over-second e f c.args.a.now c.requires.alphabet) in
    same-symbols e f c.in_ok-first.first c.in_ok-second.second first second c.in_ok-first.ensures.few c.in_ok-second.ensures.few

pub returns-clause-verdict : goal.returns-clause-verdict
returns-clause-verdict c =
    let e = c.args.e.now in
    let f = c.args.f.now in
    let first : IsBuilt e (either e f) c.in_ok-first.first = c.in_ok-first.ensures.built (either e f) (over-first e f c.args.a.now c.requires.alphabet) in
    let second : IsBuilt f (either e f) c.in_ok-second.second = c.in_ok-second.ensures.built (either e f) (over-second e f c.args.a.now c.requires.alphabet) in
    verdict e f c.in_ok-first.first c.in_ok-second.second first second c.in_ok-first.ensures.few c.in_ok-second.ensures.few c.in_ok-compare.field-0 c.in_ok-compare.ensures

pub returns-clause-allowed : goal.returns-clause-allowed
returns-clause-allowed c =
    let e = c.args.e.now in
    let f = c.args.f.now in
    let first : IsBuilt e (either e f) c.in_ok-first.first = c.in_ok-first.ensures.built (either e f) (over-first e f c.args.a.now c.requires.alphabet) in
    let second : IsBuilt f (either e f) c.in_ok-second.second = c.in_ok-second.ensures.built (either e f) (over-second e f c.args.a.now c.requires.alphabet) in
    allowed e f c.in_ok-first.first c.in_ok-second.second first second c.in_ok-first.ensures.few c.in_ok-second.ensures.few c.requires.few

pub returns-in_err-first-clause-cause : goal.returns-in_err-first-clause-cause
returns-in_err-first-clause-cause c =
    let e = c.args.e.now in
    let f = c.args.f.now in
    let p = err_from_is_err_and c.from_residual.result c.from_residual.ensures.1 in
    rw (p.1, p.2) (cause-first e f c.in_err-first.field-0.0 c.requires.few (c.in_err-first.ensures.cause (either e f) (over-first e f c.args.a.now c.requires.alphabet)))

pub returns-in_err-second-clause-cause : goal.returns-in_err-second-clause-cause
returns-in_err-second-clause-cause c =
    let e = c.args.e.now in
    let f = c.args.f.now in
    let first : IsBuilt e (either e f) c.in_ok-first.first = c.in_ok-first.ensures.built (either e f) (over-first e f c.args.a.now c.requires.alphabet) in
    let p = err_from_is_err_and c.from_residual-in_err-second.result c.from_residual-in_err-second.ensures.1 in
    rw (p.1, p.2) (cause-second e f c.in_err-second.field-0.0 c.requires.few (subst (λ n. n ≤ state_limit) first.states c.in_ok-first.ensures.few)
    (c.in_err-second.ensures.cause (either e f) (over-second e f c.args.a.now c.requires.alphabet)))
