use Rattle.std.proofs.Common.{take}
use Rattle.ode_opening.specs.Births.{AreBirthsOf}
use Rattle.ode_opening.proofs.births.births_of.Given as goal

-- the births so far
abbrev pub invariant-loop-place : goal.invariant-loop-place
invariant-loop-place l = AreBirthsOf (take l.place l.records) l.births
