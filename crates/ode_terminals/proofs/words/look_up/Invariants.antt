use Rattle.std.proofs.Common.{◌≡◌, drop, map}
use Rattle.ode_terminals.specs.Words.{looked_up}
use Rattle.ode_terminals.proofs.words.look_up.Given as goal

-- the rows that are left have what the table has
abbrev pub invariant-loop-row : goal.invariant-loop-row
invariant-loop-row l = looked_up (map (λ row. (row.0.now, row.1)) (drop l.row-index l.rows)) l.word ≡ looked_up (map (λ row. (row.0.now, row.1)) l.rows) l.word
