use Rattle.std.proofs.Common.{◌≡◌, take}
use Rattle.ode_trees.specs.ListMachines.{each_step}
use Rattle.ode_trees.proofs.growth.step_by_each.Given as goal

-- the steps by the marks so far
abbrev pub invariant-loop-mark : goal.invariant-loop-mark
invariant-loop-mark l = l.new ≡ each_step l.e (take l.mark-index l.marks) l.s
