use Rattle.std.proofs.Common.{◌≡◌, ℕ, ◌+◌}
use Rattle.std.specs.Prelude.{slice_get}
use Rattle.ode_schema.proofs.line.Line.nth.Given as goal

abbrev pub invariant-loop-passed : goal.invariant-loop-passed
invariant-loop-passed l = (m : ℕ) → slice_get l.initial.self (l._passed + m) ≡ slice_get l.self m
