use Rattle.std.proofs.Common.{take}
use Rattle.std.specs.List.{AllZip}
use Rattle.ode_change.specs.Fitting.{IsOver}
use Rattle.ode_change.proofs.anew.are_over.Given as goal

-- those so far
abbrev pub invariant-loop-place : goal.invariant-loop-place
invariant-loop-place l = AllZip IsOver (take l.place l.tables) (take l.place l.alphabets)
