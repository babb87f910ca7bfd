use Rattle.std.proofs.Common.{◌≡◌, ◌++◌, drop}
use Rattle.std.specs.List.{filter}
use Rattle.std.specs.Prelude.{All}
use Rattle.ode_timer.specs.Due.{HasPlaces, due_at, is_above}
use Rattle.ode_timer.proofs.ahead.put_second.Given as goal

-- what was put, with what is left
abbrev pub invariant-loop-row : goal.invariant-loop-row
invariant-loop-row l = All HasPlaces l.rows → l.fn.events ++ filter (is_above l.old) (due_at l.rows l.second)
    ≡ l.events ++ filter (is_above l.old) (due_at (drop l.row-index l.rows) l.second)
