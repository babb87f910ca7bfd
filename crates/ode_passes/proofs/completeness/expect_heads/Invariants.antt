use Rattle.std.proofs.Common.{◌≡◌, ◌+◌, ◌-◌, drop}
use Rattle.ode_value.specs.Keys.{class_head_key}
use Rattle.ode_passes.specs.Complete.{head_keys, next_are}
use Rattle.ode_passes.proofs.Completing.{left}
use Rattle.ode_passes.proofs.completeness.expect_heads.Given as goal

abbrev pub invariant-loop-place : goal.invariant-loop-place
invariant-loop-place l = next_are (left class_head_key (l.place + 1) (l.count - l.place)) (drop l.at l.records) ≡ next_are (head_keys l.records) l.records
