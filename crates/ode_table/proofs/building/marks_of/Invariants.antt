use Rattle.std.proofs.Common.{◌≡◌, map}
use Rattle.std.specs.List.{range_with_len}
use Rattle.ode_value.specs.Marks.{spelled}
use Rattle.ode_value.specs.Symbols.{mark_among}
use Rattle.ode_table.proofs.building.marks_of.Given as goal

-- the symbols so far
abbrev pub invariant-loop-s : goal.invariant-loop-s
invariant-loop-s l = l.marks ≡ map (λ s. spelled l.e (mark_among l.a s)) (range_with_len 0 l.s)
