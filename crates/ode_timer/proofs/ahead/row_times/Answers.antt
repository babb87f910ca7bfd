use Rattle.std.proofs.Common.{◌-◌, ◌^◌, ap}
use Rattle.std.specs.Int.{int_gap}
use Rattle.std.specs.List.{enumerate_from, sum_by}
use Rattle.std.proofs.lemmas.Int.{to_z-of_z}
use Rattle.std.proofs.lemmas.List.{drop_all}
use Rattle.ode_timer.specs.Counts.{kind_times, row_times}
use Rattle.ode_timer.proofs.Places.{counted}
use Rattle.ode_timer.proofs.ahead.row_times.Goals as goal

pub returns : goal.returns
returns c =
    let n = int_gap c.args.old.now.instant c.args.new in
    let to = c.ranges.new in
    counted c.loop-place.times _ (row_times c.args.old.now n c.args.row.now) (2 ^ 128 - 1)
    (ap (λ ks. sum_by (kind_times c.args.old.now n c.args.row.now.object) (enumerate_from c.loop-place.place ks)) (drop_all c.loop-place.place c.as_slice-kinds.result.now c.loop-place-test.false))
    c.loop-place.invariant.small (simp to_z-of_z at c.loop-place.invariant.counted)
