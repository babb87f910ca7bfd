use Rattle.std.proofs.Common.{◌≡◌, List, ◌++◌}
use Rattle.std.specs.Prelude.{fold}
use Rattle.ode_value.specs.declared.tree.StateTree.{StateTree}
use Rattle.ode_value.specs.TreeCount.{with_tree}
use Rattle.ode_trees.specs.Found.{Covers, Leads}
use Rattle.ode_trees.proofs.growth.note_each.Given as goal

-- those so far are added, and so are their numbers
abbrev pub invariant-loop-s : goal.invariant-loop-s
invariant-loop-s l =
    Covers l.found.trees l.found.numbers.entries (λ k. k.items) × (l.found.trees ≡ fold with_tree l.initial.found.trees l.yielded)
    × ((steps : List StateTree) → Leads l.initial.found.trees l.initial.found.next steps → Leads l.found.trees l.found.next (steps ++ l.yielded))
