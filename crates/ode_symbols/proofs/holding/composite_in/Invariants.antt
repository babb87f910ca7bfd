use Rattle.std.proofs.Common.{◌≡◌, drop}
use Rattle.ode_value.specs.Marks.{OfEvent}
use Rattle.ode_value.specs.Symbols.{holds_in}
use Rattle.ode_symbols.proofs.holding.composite_in.Given as goal

-- what is left of the number says it of the rows from here on
abbrev pub invariant-loop-row : goal.invariant-loop-row
invariant-loop-row l = holds_in l.masks l.rows l.number (OfEvent l.mask) ≡ holds_in l.masks (drop l.row-index l.rows) l.rest (OfEvent l.mask)
