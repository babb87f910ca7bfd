use Rattle.std.proofs.Common.{◌≡◌, map, take}
use Rattle.ode_query.specs.Rows.{reference_to}
use Rattle.ode_query.proofs.combination.scene_of.Given as goal

abbrev pub invariant-loop-number : goal.invariant-loop-number
invariant-loop-number l = l.locals ≡ map reference_to (take l.number-index l.numbers)
