use Rattle.std.proofs.Common.{◌≡◌, ◌+◌, ◌-◌, ◌<◌, ℕ, drop, ap, ◌∙◌, arith}
use Rattle.ode_value.specs.Keys.{class_head_key}
use Rattle.ode_passes.specs.Complete.{head_keys, next_are}
use Rattle.ode_passes.proofs.Completing.{left, run_goes}
use Rattle.ode_passes.proofs.completeness.expect_heads.Goals as goal

pub loop-place-preserved : goal.loop-place-preserved
loop-place-preserved c =
    let records = c.args.records.now in
    let place = c.loop-place.place in
    let count = c.class_count-count.result in
    let some : 0 < count - place = omega arith in
    let less : count - (place + 1) ≡ count - place - 1 = omega arith in
    ap (λ (n : ℕ). next_are (left class_head_key (place + 1 + 1) n) (drop c.in_ok-at.at records)) less
    ∙ run_goes class_head_key (place + 1) (count - place) (drop c.loop-place.at records) (drop c.in_ok-at.at records) (next_are (head_keys records) records)
    some c.in_ok-at.ensures.goes c.loop-place.invariant
