use Rattle.std.proofs.Common.{◌≡◌, ◌++◌, drop}
use Rattle.std.specs.List.{filter}
use Rattle.ode_timer.specs.Due.{HasPlaces, due_in, is_above}
use Rattle.ode_timer.proofs.Places.{due_from}
use Rattle.ode_timer.proofs.ahead.put_row.Given as goal

-- what was put, with what is left
abbrev pub invariant-loop-place : goal.invariant-loop-place
invariant-loop-place l = HasPlaces l.row → l.fn.events ++ filter (is_above l.old) (due_in l.second l.row)
    ≡ l.events ++ filter (is_above l.old) (due_from l.second l.row.object l.place (drop l.place l.kinds))
