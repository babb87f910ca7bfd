use Rattle.std.proofs.Common.{◌≡◌, ◌≤◌, ◌+◌, length}
use Rattle.ode_schema.proofs.line.Line.len.Given as goal

abbrev pub invariant-loop-count : goal.invariant-loop-count
invariant-loop-count l = record {
  passed : length l.initial.self ≡ length l.self + l.count;
  few : length l.initial.self ≤ l.most;
}
