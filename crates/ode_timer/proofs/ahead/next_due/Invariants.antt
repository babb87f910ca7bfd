use Rattle.std.proofs.Common.{◌≡◌, ◌<◌, ℕ, pos, drop}
use Rattle.std.specs.Prelude.{◌+ℤ◌, IfSome}
use Rattle.ode_timer.specs.Counts.{IsBetween, idle_for}
use Rattle.ode_timer.specs.Due.{due_at}
use Rattle.ode_timer.proofs.ahead.next_due.Given as goal

-- before the next second that was found only what is left may be due
abbrev pub invariant-loop-row : goal.invariant-loop-row
invariant-loop-row l = record {
  within : IfSome l.next (IsBetween l.after l.last);
  rest : (j : ℕ) → 0 < j → j < idle_for l.after l.last l.next → due_at l.rows (l.after +ℤ pos j) ≡ due_at (drop l.row-index l.rows) (l.after +ℤ pos j);
}
