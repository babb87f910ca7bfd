use Rattle.std.proofs.Common.{◌≡◌, ◌+◌, ◌-◌, drop}
use Rattle.ode_value.specs.Keys.{key}
use Rattle.ode_passes.specs.Complete.{next_are, run}
use Rattle.ode_passes.proofs.Completing.{left}
use Rattle.ode_passes.proofs.completeness.expect_run.Given as goal

abbrev pub invariant-loop-place : goal.invariant-loop-place
invariant-loop-place l =
    next_are (left (key l.wanted.kind l.wanted.a) (l.wanted.first + l.place) (l.wanted.count - l.place)) (drop l.at l.records)
    ≡ next_are (run l.wanted.kind l.wanted.a l.wanted.first l.wanted.count) (drop l.initial.at l.records)
