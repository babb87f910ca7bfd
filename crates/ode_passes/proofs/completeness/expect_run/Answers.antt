use Rattle.std.proofs.Common.{◌≡◌, ◌+◌, ◌-◌, ◌<◌, ℕ, drop, ap, ◌∙◌, arith}
use Rattle.std.proofs.lemmas.Result.{err_from_is_err_and}
use Rattle.ode_value.specs.Keys.{key}
use Rattle.ode_value.specs.declared.key.Key.{Key}
use Rattle.ode_passes.specs.Complete.{next_are, run}
use Rattle.ode_passes.proofs.Completing.{left, run_goes, run_stops}
use Rattle.ode_passes.proofs.completeness.expect_run.Goals as goal

pub returns-in_err-at : goal.returns-in_err-at
returns-in_err-at c =
    let records = c.args.records.now in
    let wanted = c.args.wanted in
    let place = c.loop-place.place in
    let some : 0 < wanted.count - place = omega arith in
    let p = err_from_is_err_and c.from_residual.result c.from_residual.ensures.1 in
    rw (p.1, p.2) (run_stops (key wanted.kind wanted.a) (wanted.first + place) (wanted.count - place) (drop c.loop-place.at records)
    (next_are (run wanted.kind wanted.a wanted.first wanted.count) (drop c.args.at records)) c.in_err-at.field-0.0 some c.in_err-at.ensures.goes c.loop-place.invariant)

pub loop-place-preserved : goal.loop-place-preserved
loop-place-preserved c =
    let records = c.args.records.now in
    let wanted = c.args.wanted in
    let place = c.loop-place.place in
    let f : ℕ → Key = key wanted.kind wanted.a in
    let some : 0 < wanted.count - place = omega arith in
    let less : wanted.count - (place + 1) ≡ wanted.count - place - 1 = omega arith in
    let next : wanted.first + (place + 1) ≡ wanted.first + place + 1 = omega arith in
    ap (λ (n : ℕ). next_are (left f (wanted.first + (place + 1)) n) (drop c.in_ok-at.at records)) less
    ∙ ap (λ (n : ℕ). next_are (left f n (wanted.count - place - 1)) (drop c.in_ok-at.at records)) next
    ∙ run_goes f (wanted.first + place) (wanted.count - place) (drop c.loop-place.at records) (drop c.in_ok-at.at records)
    (next_are (run wanted.kind wanted.a wanted.first wanted.count) (drop c.args.at records)) some c.in_ok-at.ensures.goes c.loop-place.invariant
