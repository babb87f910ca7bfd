use Rattle.std.proofs.Common.{◌≡◌, ◌+◌, length}
use Rattle.ode_types.proofs.line.Line.is_within.Given as goal

abbrev pub invariant-loop-passed : goal.invariant-loop-passed
invariant-loop-passed l = length l.initial.self ≡ length l.self + l._passed
