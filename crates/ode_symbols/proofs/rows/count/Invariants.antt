use Rattle.std.proofs.Common.{◌≡◌, ◌+◌, min, take}
use Rattle.std.specs.Prelude.{sum_by}
use Rattle.ode_value.specs.Limits.{counted_symbols}
use Rattle.ode_value.specs.Symbols.{symbols_apart, symbols_in}
use Rattle.ode_symbols.proofs.rows.count.Given as goal

-- the symbols of the rows so far
abbrev pub invariant-loop-row : goal.invariant-loop-row
invariant-loop-row l = l.count ≡ min (symbols_apart l.masks + sum_by (symbols_in l.masks) (take l.row-index l.rows)) counted_symbols
