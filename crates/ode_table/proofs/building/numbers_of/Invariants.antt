use Rattle.std.proofs.Common.{◌≡◌, take}
use Rattle.ode_table.proofs.building.numbers_of.Given as goal

-- the numbers so far
abbrev pub invariant-loop-n : goal.invariant-loop-n
invariant-loop-n l = l.next ≡ take l.n-index l.numbers
