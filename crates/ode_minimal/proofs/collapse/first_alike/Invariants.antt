use Rattle.std.proofs.Common.{ℕ, ◌<◌, ◌≡◌, true}
use Rattle.ode_minimal.specs.Marking.{is_marked}
use Rattle.ode_minimal.proofs.collapse.first_alike.Given as goal

abbrev pub invariant-loop-p : goal.invariant-loop-p
invariant-loop-p l = (p : ℕ) → p < l.p → is_marked l.t l.marked p l.q ≡ true
