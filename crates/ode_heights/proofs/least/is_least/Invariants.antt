use Rattle.std.proofs.Common.{drop}
use Rattle.ode_heights.specs.Lowest.{least_effects}
use Rattle.ode_heights.proofs.Lowest.{SameLowest}
use Rattle.ode_heights.proofs.least.is_least.Given as goal

-- where the effects that are left are those of what is left, all are
abbrev pub invariant-loop-item : goal.invariant-loop-item
invariant-loop-item l = SameLowest (drop l.item-index l.row) l.effects → SameLowest l.row (least_effects l.fn.part)
