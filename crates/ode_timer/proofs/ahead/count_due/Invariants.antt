use Rattle.std.proofs.Common.{◌≡◌, ◌≤◌, ◌+◌, ◌-◌, ◌^◌, drop, min}
use Rattle.std.specs.Int.{int_gap}
use Rattle.std.specs.List.{sum_by}
use Rattle.ode_timer.specs.Counts.{all_times, row_times}
use Rattle.ode_timer.proofs.ahead.count_due.Given as goal

-- what is counted, with what is left
abbrev pub invariant-loop-row : goal.invariant-loop-row
invariant-loop-row l = record {
  counted : min (l.count + sum_by (row_times l.old (int_gap l.old.instant l.new)) (drop l.row-index l.rows)) (2 ^ 128 - 1)
      ≡ min (all_times l.old (int_gap l.old.instant l.new) l.rows) (2 ^ 128 - 1);
  small : l.count ≤ 2 ^ 128 - 1;
}
