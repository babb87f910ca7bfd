use Rattle.std.proofs.Common.{◌≡◌}
use Rattle.std.specs.Prelude.{filter}
use Rattle.ode_value.specs.Trees.{answers}
use Rattle.ode_trees.proofs.machine.answering.Given as goal

-- those so far that answer are kept
abbrev pub invariant-loop-s : goal.invariant-loop-s
invariant-loop-s l = l.kept ≡ filter (answers l.e) l.yielded
