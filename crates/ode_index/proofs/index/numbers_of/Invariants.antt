use Rattle.std.proofs.Common.{◌≡◌, map, take}
use Rattle.ode_index.specs.Numbers.{number_of}
use Rattle.ode_index.proofs.index.numbers_of.Given as goal

abbrev pub invariant-loop-row : goal.invariant-loop-row
invariant-loop-row l = l.numbers.items ≡ map number_of (take l.row-index l.rows)
