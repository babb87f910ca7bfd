use Rattle.std.proofs.Common.{take}
use Rattle.ode_compile.specs.Compiling.{AreLeastOf}
use Rattle.ode_compile.proofs.shrinking.shrink_all.Given as goal

-- those so far
abbrev pub invariant-loop-table : goal.invariant-loop-table
invariant-loop-table l = AreLeastOf (take l.table-index l.tables) l.least
