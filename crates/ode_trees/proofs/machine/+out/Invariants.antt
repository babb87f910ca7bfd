use Rattle.std.proofs.Common.{◌≡◌, false, take}
use Rattle.std.specs.List.{list_any}
use Rattle.ode_value.specs.Trees.{answers}
use Rattle.ode_trees.proofs.machine.+out.Given as goal

-- none of those before answers
abbrev pub invariant-any_out-loop-s : goal.invariant-any_out-loop-s
invariant-any_out-loop-s l = list_any (answers l.e) (take l.s-index l.set) ≡ false

abbrev pub invariant-any_first_out-loop-s : goal.invariant-any_first_out-loop-s
invariant-any_first_out-loop-s l = list_any (λ x. answers l.e x.0) (take l.s-index l.set) ≡ false
