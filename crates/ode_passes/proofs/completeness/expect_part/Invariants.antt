use Rattle.std.proofs.Common.{◌≡◌, drop}
use Rattle.ode_passes.specs.Complete.{keys_of, next_are}
use Rattle.ode_passes.proofs.completeness.expect_part.Given as goal

abbrev pub invariant-loop-found : goal.invariant-loop-found
invariant-loop-found l = next_are (keys_of l.part (drop l.found-index l.records)) (drop l.at l.records) ≡ next_are (keys_of l.part l.records) (drop l.initial.at l.records)
