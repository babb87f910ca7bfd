use Rattle.std.proofs.Common.{◌≡◌, ◌++◌}
use Rattle.std.specs.Int.{int_gap}
use Rattle.std.specs.List.{filter}
use Rattle.std.specs.Prelude.{All, ◌≤ℤ◌}
use Rattle.ode_timer.specs.Due.{HasPlaces, due, is_above}
use Rattle.ode_timer.proofs.Places.{due_behind}
use Rattle.ode_timer.proofs.ahead.list_due.Given as goal

-- what was listed, with what lies behind the second
abbrev pub invariant-loop-next : goal.invariant-loop-next
invariant-loop-next l = record {
  from : l.old.instant ≤ℤ l.second;
  order : l.second ≤ℤ l.new;
  events : All HasPlaces l.rows → due l.rows l.old l.new ≡ l.events ++ filter (is_above l.old) (due_behind l.rows l.second (int_gap l.second l.new));
}

abbrev pub decreases-loop-next : goal.decreases-loop-next
decreases-loop-next l = int_gap l.second l.new
