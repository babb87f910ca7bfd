use Rattle.std.proofs.Common.{◌≡◌, take}
use Rattle.ode_value.proofs.list.List.copy.Given as goal

-- the members so far
abbrev pub invariant-loop-item : goal.invariant-loop-item
invariant-loop-item g l = l.items.items ≡ take l.item-index l.from
