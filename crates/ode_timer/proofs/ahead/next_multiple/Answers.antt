use Rattle.std.proofs.Common.{◌≡◌, ◌≤◌, ◌-◌, ◌%◌, ◌∙◌, ap, arith, pos, to_z, of_z, w64}
use Rattle.std.specs.Prelude.{◌+ℤ◌, ◌≤ℤ◌}
use Rattle.std.specs.Int.{int_gap}
use Rattle.std.proofs.lemmas.Int.{ints}
use Rattle.ode_timer.proofs.Divisors.{gap_plus, idle_within, within_gap}
use Rattle.ode_timer.proofs.ahead.next_multiple.Goals as goal

pub returns-then-wait-gap-clause-idle : goal.returns-then-wait-gap-clause-idle
returns-then-wait-gap-clause-idle c j above below =
    let after = c.args.after in
    let wait = c.from-every.result - c.mark.result % c.from-every.result in
    let from = c.ranges.after in
    let to = c.ranges.last in
    let number = c.ranges.number in
    let every = c.from-every.ensures in
    let test = c.if-wait-gap.true in
    let gap = c.gap.ensures in
    let short : wait ≤ int_gap after c.args.last = grind (arith, ints) in
    let there : (after +ℤ pos wait) ≤ℤ c.args.last = within_gap after c.args.last wait c.requires.order short in
    let is : to_z w64 (of_z w64 (to_z w64 (of_z w64 after) +ℤ to_z w64 wait)) ≡ after +ℤ pos wait = omega (arith, ints) in
    let far = ap (int_gap after) is ∙ gap_plus after wait in
    idle_within c.args.number c.requires.some after c.mark.result c.from-every.result _ every
    (let v = c.mark.ensures.value in omega (arith, ints)) (omega (arith, far)) j above below

pub returns-else-wait-gap-clause-idle : goal.returns-else-wait-gap-clause-idle
returns-else-wait-gap-clause-idle c j above below =
    let test = c.if-wait-gap.false in
    let gap = c.gap.ensures in
    idle_within c.args.number c.requires.some c.args.after c.mark.result c.from-every.result _ c.from-every.ensures
    (let v = c.mark.ensures.value in omega (arith, ints)) (grind (arith, ints)) j above below
