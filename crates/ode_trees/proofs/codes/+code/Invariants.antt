use Rattle.std.proofs.Common.{◌≡◌, ◌++◌, take}
use Rattle.std.specs.Prelude.{flat_map}
use Rattle.ode_trees.specs.Codes.{code, pair_code}
use Rattle.ode_trees.proofs.codes.+code.Given as goal

-- those so far are added
abbrev pub invariant-write_all-loop-s : goal.invariant-write_all-loop-s
invariant-write_all-loop-s l = l.to.items ≡ l.initial.to.items ++ flat_map code (take l.s-index l.set)

abbrev pub invariant-write_pairs-loop-s : goal.invariant-write_pairs-loop-s
invariant-write_pairs-loop-s l = l.to.items ≡ l.initial.to.items ++ flat_map pair_code (take l.s-index l.set)
