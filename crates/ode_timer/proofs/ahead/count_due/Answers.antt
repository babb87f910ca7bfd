use Rattle.std.proofs.Common.{◌-◌, ◌^◌, List, ap, sym, ◌∙◌, arith, length, min}
use Rattle.std.specs.Int.{int_gap}
use Rattle.std.specs.List.{sum_by}
use Rattle.std.specs.Prelude.{◌≤ℤ◌, ◌<ℤ◌}
use Rattle.std.proofs.lemmas.Int.{ints, to_z-of_z}
use Rattle.std.proofs.lemmas.List.{drop_all}
use Rattle.ode_value.specs.Worlds.{Position}
use Rattle.ode_timer.specs.Counts.{all_times, row_times}
use Rattle.ode_timer.proofs.Places as places
use Rattle.ode_timer.proofs.ahead.count_due.Goals as goal

pub returns-after-loop-row : goal.returns-after-loop-row
returns-after-loop-row c =
    let old = c.args.old.now in
    let is = ap (λ (p : Position). p.instant) c.old.view_is in
    let test = c.if-old-new.true in
    let order : old.instant ≤ℤ c.args.new = grind (arith, ints) in
    let n = int_gap old.instant c.args.new in
    let to = c.ranges.new in
    places.counted c.loop-row.count _ (all_times old n c.args.rows.now) (2 ^ 128 - 1)
    (ap (λ rs. sum_by (row_times old n) rs) (drop_all c.loop-row.row-index c.args.rows.now c.loop-row-test.false))
    c.loop-row.invariant.small (simp to_z-of_z at c.loop-row.invariant.counted)
    ∙ ap (λ t. min t (2 ^ 128 - 1)) (sym (places.count_due old c.args.rows.now c.args.new order))

pub returns-else-old-new : goal.returns-else-old-new
returns-else-old-new c =
    let old = c.args.old.now in
    let is = ap (λ (p : Position). p.instant) c.old.view_is in
    let test = c.if-old-new.false in
    let order : c.args.new <ℤ old.instant = grind (arith, ints) in
    sym (ap (λ (ps : List Position). min (length ps) (2 ^ 128 - 1)) (places.due_before c.args.rows.now old c.args.new order))
