use Rattle.std.proofs.Common.{◌≡◌, map, take}
use Rattle.ode_value.specs.Trees.{answers}
use Rattle.ode_table.proofs.building.answers_of.Given as goal

-- the trees so far
abbrev pub invariant-loop-s : goal.invariant-loop-s
invariant-loop-s l = l.yes ≡ map (answers l.e) (take l.s-index l.trees)
