use Rattle.std.proofs.Common.{◌≡◌, ◌-◌, ◌≤◌, [], ◌∷◌, length, take}
use Rattle.std.specs.Prelude.{Some, flat_map}
use Rattle.std.specs.List.{slice_get}
use Rattle.ode_value.specs.Limits.{state_limit}
use Rattle.ode_value.specs.Trees.{first_tree}
use Rattle.ode_trees.specs.Found.{Covers, IsMade, Leads}
use Rattle.ode_trees.specs.ListMachines.{each_step}
use Rattle.ode_trees.proofs.growth.explore.Given as goal

-- the first q trees were stepped
abbrev pub invariant-loop-q : goal.invariant-loop-q
invariant-loop-q l = record {
  covers : Covers l.found.trees l.found.numbers.entries (λ k. k.items);
  within : l.q ≤ length l.found.trees;
  few : l.q ≤ state_limit;
  first : slice_get l.found.trees 0 ≡ Some (first_tree l.e);
  made : IsMade (first_tree l.e ∷ []) (each_step l.e l.marks) l.q l.found.trees;
  next : Leads l.found.trees l.found.next (flat_map (each_step l.e l.marks) (take l.q l.found.trees));
}

abbrev pub decreases-loop-q : goal.decreases-loop-q
decreases-loop-q l = 513 - l.q
