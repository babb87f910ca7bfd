use Rattle.std.proofs.Common.{◌≡◌, ◌-◌, ◌≤◌, ◌++◌, length, take, drop}
use Rattle.ode_value.specs.TreeOrder.{joined}
use Rattle.ode_trees.proofs.set.join.Given as goal

-- the member goes among those from here on
abbrev pub invariant-loop-at : goal.invariant-loop-at
invariant-loop-at g l =
    (l.at ≤ length l.set) × (l.set ≡ l.initial.set) × (joined g.T.Member.cmp l.member l.set ≡ take l.at l.set ++ joined g.T.Member.cmp l.member (drop l.at l.set))

abbrev pub decreases-loop-at : goal.decreases-loop-at
decreases-loop-at g l = length l.set - l.at
