use Rattle.std.proofs.Common.{◌≡◌, drop}
use Rattle.ode_value.specs.Tables.{run}
use Rattle.ode_same.proofs.comparing.answer.Given as goal

-- the rest of the word leads from the state so far to where all of it leads from the start
abbrev pub invariant-loop-symbol : goal.invariant-loop-symbol
invariant-loop-symbol l = run l.table l.state (drop l.symbol-index l.word) ≡ run l.table 0 l.word
