use Rattle.std.proofs.Common.{◌≡◌, ◌<◌, ℕ, pos, drop}
use Rattle.std.specs.Prelude.{◌+ℤ◌, IfSome}
use Rattle.ode_timer.specs.Counts.{IsBetween, idle_for}
use Rattle.ode_timer.specs.Due.{due_in}
use Rattle.ode_timer.proofs.Places.{due_from}
use Rattle.ode_timer.proofs.ahead.next_in.Given as goal

-- before the next second that was found only the kinds that are left may be due
abbrev pub invariant-loop-kind : goal.invariant-loop-kind
invariant-loop-kind l = record {
  within : IfSome l.next (IsBetween l.after l.last);
  rest : (j : ℕ) → 0 < j → j < idle_for l.after l.last l.next → due_in (l.after +ℤ pos j) l.row ≡ due_from (l.after +ℤ pos j) l.row.object l.kind-index (drop l.kind-index l.kinds);
}
