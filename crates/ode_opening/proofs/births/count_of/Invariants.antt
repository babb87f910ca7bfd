use Rattle.std.proofs.Common.{◌≡◌, ◌+◌, drop, length}
use Rattle.ode_opening.specs.Births.{front_of}
use Rattle.ode_opening.proofs.births.count_of.Given as goal

-- so many are of the class
abbrev pub invariant-loop-count : goal.invariant-loop-count
invariant-loop-count l = length (front_of l.class l.added) ≡ l.count + length (front_of l.class (drop l.count l.added))
