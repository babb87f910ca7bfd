use Rattle.std.proofs.Common.{◌∙◌, ◌∷◌, ◌+◌, ℕ, List, drop, subst}
use Rattle.std.specs.List.{AllByRecursion}
use Rattle.std.proofs.lemmas.List.{drop_all}
use Rattle.std.proofs.lemmas.Result.{err_from_is_err_and}
use Rattle.ode_host.proofs.Calls.{host_calls_as}
use Rattle.ode_host.specs.Host.{LeavesCut, LeavesOnly, Printed}
use Rattle.ode_transact.specs.Logging.{IsBounded, Kept}
use Rattle.ode_ends.proofs.CallLaws.{answer_quiet, damage_as, error_told, no_calls, quiet_answer, told_behind}
use Rattle.ode_trace.proofs.ShippedLaws.{ArePrinting, next_kept, printing_all, printing_cut, printing_fits, printing_more, printing_none}
use Rattle.ode_trace.proofs.shipping.print_frames.Goals as goal

pub loop-number-init : goal.loop-number-init
loop-number-init g c = record {
  so_far = printing_none c.args.kept.now (g.H.Host.view c.args.host.now) c.requires.bounded;
  leaves = no_calls ⊥ ⊥ (g.H.Host.view c.args.host.now) (λ none. none) (λ none. none);
}

pub frame-requires-clause-few : goal.frame-requires-clause-few
frame-requires-clause-few g c =
    let kept = c.args.kept.now in
    let next = next_kept kept c.loop-number.number-index c.loop-number-item.result c.loop-number-test.true c.loop-number-item.is in
    (subst (λ (l : List Kept). AllByRecursion IsBounded l) next c.loop-number.invariant.so_far.bounded).0.0

pub frame-requires-clause-short : goal.frame-requires-clause-short
frame-requires-clause-short g c =
    let kept = c.args.kept.now in
    let next = next_kept kept c.loop-number.number-index c.loop-number-item.result c.loop-number-test.true c.loop-number-item.is in
    (subst (λ (l : List Kept). AllByRecursion IsBounded l) next c.loop-number.invariant.so_far.bounded).0.1

pub loop-number-preserved : goal.loop-number-preserved
loop-number-preserved g c =
    let kept = c.args.kept.now in
    let i = c.loop-number.number-index in
    let k = c.loop-number-item.result in
    let old = g.H.Host.view c.args.host.now in
    let mid = g.H.Host.view c.loop-number.host in
    let new = g.H.Host.view c.say.new.host in
    let next = next_kept kept i k c.loop-number-test.true c.loop-number-item.is in
    let is = c.as_slice.ensures ∙ c.in_ok-bytes.ensures.spelled in
    let so_far : ArePrinting kept (k ∷ drop (i + 1) kept) old mid = subst (λ (l : List Kept). ArePrinting kept l old mid) next c.loop-number.invariant.so_far in
    record {
      so_far = printing_more kept (drop (i + 1) kept) k old mid new so_far c.in_ok-bytes.ensures.fits
          (λ file text stands told. subst (λ (l : List ℕ). LeavesOnly mid new (LeavesCut file text l)) is (c.say.ensures.any_moment file text stands told))
          (subst (λ (l : List ℕ). Printed l mid new) is c.in_ok-say.ensures.printed) c.say.ensures.stands;
      leaves = told_behind ⊥ ⊥ old mid new c.loop-number.invariant.leaves (answer_quiet tt mid new c.in_ok-say.ensures.leaves);
    }

pub returns-in_err-bytes-clause-any_moment : goal.returns-in_err-bytes-clause-any_moment
returns-in_err-bytes-clause-any_moment g c = c.loop-number.invariant.so_far.moments

pub returns-in_err-bytes-clause-stands : goal.returns-in_err-bytes-clause-stands
returns-in_err-bytes-clause-stands g c = c.loop-number.invariant.so_far.stands

pub returns-in_err-bytes-clause-leaves : goal.returns-in_err-bytes-clause-leaves
returns-in_err-bytes-clause-leaves g c =
    let p = err_from_is_err_and c.from_residual.result c.from_residual.ensures.1 in
    rw (p.1, p.2) (host_calls_as ⊥ ⊥ _ _ _ _ absurd (λ is. cc (is)) absurd (λ is. cc (is)) c.loop-number.invariant.leaves)

pub returns-in_err-say-clause-any_moment : goal.returns-in_err-say-clause-any_moment
returns-in_err-say-clause-any_moment g c =
    let kept = c.args.kept.now in
    let i = c.loop-number.number-index in
    let k = c.loop-number-item.result in
    let old = g.H.Host.view c.args.host.now in
    let mid = g.H.Host.view c.loop-number.host in
    let new = g.H.Host.view c.say.new.host in
    let next = next_kept kept i k c.loop-number-test.true c.loop-number-item.is in
    let is = c.as_slice.ensures ∙ c.in_ok-bytes.ensures.spelled in
    printing_cut kept (drop (i + 1) kept) k old mid new (subst (λ (l : List Kept). ArePrinting kept l old mid) next c.loop-number.invariant.so_far) c.in_ok-bytes.ensures.fits
    (λ file text stands told. subst (λ (l : List ℕ). LeavesOnly mid new (LeavesCut file text l)) is (c.say.ensures.any_moment file text stands told))

pub returns-in_err-say-clause-stands : goal.returns-in_err-say-clause-stands
returns-in_err-say-clause-stands g c file stands = c.say.ensures.stands file (c.loop-number.invariant.so_far.stands file stands)

pub returns-in_err-say-clause-sound : goal.returns-in_err-say-clause-sound
returns-in_err-say-clause-sound g c =
    let p = err_from_is_err_and c.from_residual-in_err-say.result c.from_residual-in_err-say.ensures.1 in
    rw (p.1, p.2) (damage_as (Unit {0}) (Unit {0}) _ ⊥ c.in_err-say.ensures.sound)

pub returns-in_err-say-clause-leaves : goal.returns-in_err-say-clause-leaves
returns-in_err-say-clause-leaves g c =
    let p = err_from_is_err_and c.from_residual-in_err-say.result c.from_residual-in_err-say.ensures.1 in
    rw (p.1, p.2) (told_behind _ _ _ _ _ c.loop-number.invariant.leaves (error_told (Unit {0}) (Unit {0}) _ _ _ c.in_err-say.ensures.leaves))

pub returns-clause-printed : goal.returns-clause-printed
returns-clause-printed g c =
    let kept = c.args.kept.now in
    printing_all kept (drop c.loop-number.number-index kept) _ _ (drop_all c.loop-number.number-index kept c.loop-number-test.false) c.loop-number.invariant.so_far

pub returns-clause-fits : goal.returns-clause-fits
returns-clause-fits g c =
    let kept = c.args.kept.now in
    printing_fits kept (drop c.loop-number.number-index kept) _ _ (drop_all c.loop-number.number-index kept c.loop-number-test.false) c.loop-number.invariant.so_far

pub returns-clause-any_moment : goal.returns-clause-any_moment
returns-clause-any_moment g c = c.loop-number.invariant.so_far.moments

pub returns-clause-stands : goal.returns-clause-stands
returns-clause-stands g c = c.loop-number.invariant.so_far.stands

pub returns-clause-leaves : goal.returns-clause-leaves
returns-clause-leaves g c = quiet_answer tt _ _ c.loop-number.invariant.leaves
