use Rattle.std.proofs.Common.{◌≡◌, [], drop}
use Rattle.ode_language.specs.Languages.{ode}
use Rattle.ode_opening.specs.Trees.{tree_next}
use Rattle.ode_passes.specs.Complete.{class_count}
use Rattle.ode_passes.specs.Rules.{through}
use Rattle.ode_opening.proofs.trees.trees_of.Given as goal

-- the trees so far
abbrev pub invariant-loop-found : goal.invariant-loop-found
invariant-loop-found l =
    through (tree_next ode) (l.trees, drop l.at l.records) (drop l.found-index l.records) ≡ through (tree_next ode) ([], drop (class_count l.records) l.records) l.records
