use Rattle.std.proofs.Common.{◌≡◌, ◌≤◌, ◌+◌, ◌-◌, ◌^◌, drop, min}
use Rattle.std.specs.Int.{int_gap}
use Rattle.std.specs.List.{enumerate_from, sum_by}
use Rattle.ode_timer.specs.Counts.{kind_times, row_times}
use Rattle.ode_timer.proofs.ahead.row_times.Given as goal

-- what is counted, with what is left
abbrev pub invariant-loop-place : goal.invariant-loop-place
invariant-loop-place l = record {
  counted : min (l.times + sum_by (kind_times l.old (int_gap l.old.instant l.new) l.row.object) (enumerate_from l.place (drop l.place l.kinds))) (2 ^ 128 - 1)
      ≡ min (row_times l.old (int_gap l.old.instant l.new) l.row) (2 ^ 128 - 1);
  small : l.times ≤ 2 ^ 128 - 1;
}
