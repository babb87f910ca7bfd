use Rattle.std.proofs.Common.{◌≡◌, [], drop, map}
use Rattle.std.specs.Prelude.{◌+◌, ◌*◌, max}
use Rattle.ode_value.specs.declared.event.EventExpr.{size-EventExpr}
use Rattle.ode_value.specs.TreeOrder.{tree_cmp, all_joined}
use Rattle.ode_trees.specs.ListMachines.{next_listed, pairs_after, unanswered_after}
use Rattle.ode_trees.proofs.machine.+step.Given as goal

-- the rest still has to step
abbrev pub invariant-step_all-loop-s : goal.invariant-step_all-loop-s
invariant-step_all-loop-s l =
    all_joined tree_cmp l.after (map (next_listed l.e l.at l.mark) (drop l.s-index l.set)) ≡ all_joined tree_cmp [] (map (next_listed l.e l.at l.mark) l.set)

abbrev pub invariant-step_unanswered-loop-s : goal.invariant-step_unanswered-loop-s
invariant-step_unanswered-loop-s l = unanswered_after l.e l.at l.mark l.after (drop l.s-index l.set) ≡ unanswered_after l.e l.at l.mark [] l.set

abbrev pub invariant-step_pairs-loop-s : goal.invariant-step_pairs-loop-s
invariant-step_pairs-loop-s l = pairs_after l.f l.g l.at l.mark l.after (drop l.s-index l.set) ≡ pairs_after l.f l.g l.at l.mark [] l.set

-- the depth of what is stepped, with a rank for each function
abbrev pub decreases-step_at : goal.decreases-step_at
decreases-step_at l = 3 * size-EventExpr l.e.now

abbrev pub decreases-step_two : goal.decreases-step_two
decreases-step_two l = 3 * max (size-EventExpr l.e.now) (size-EventExpr l.f.now) + 2

abbrev pub decreases-step_relative : goal.decreases-step_relative
decreases-step_relative l = 3 * max (size-EventExpr l.e.now) (size-EventExpr l.f.now) + 2

abbrev pub decreases-step_fa : goal.decreases-step_fa
decreases-step_fa l = 3 * max (size-EventExpr l.e.now) (max (size-EventExpr l.f.now) (size-EventExpr l.g.now)) + 2

abbrev pub decreases-step_all : goal.decreases-step_all
decreases-step_all l = 3 * size-EventExpr l.e.now + 1

abbrev pub decreases-step_pairs : goal.decreases-step_pairs
decreases-step_pairs l = 3 * max (size-EventExpr l.f.now) (size-EventExpr l.g.now) + 1

abbrev pub decreases-step_relplus : goal.decreases-step_relplus
decreases-step_relplus l = 3 * size-EventExpr l.e.now + 2

abbrev pub decreases-step_pipe : goal.decreases-step_pipe
decreases-step_pipe l = 3 * max (size-EventExpr l.e.now) (size-EventExpr l.f.now) + 2

abbrev pub decreases-step_faabs : goal.decreases-step_faabs
decreases-step_faabs l = 3 * max (size-EventExpr l.e.now) (max (size-EventExpr l.f.now) (size-EventExpr l.g.now)) + 2

abbrev pub decreases-step_unanswered : goal.decreases-step_unanswered
decreases-step_unanswered l = 3 * size-EventExpr l.e.now + 1

abbrev pub decreases-step_if : goal.decreases-step_if
decreases-step_if l = 3 * size-EventExpr l.e.now + 1
