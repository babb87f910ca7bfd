use Rattle.std.proofs.Common.{◌≡◌, drop}
use Rattle.ode_symbols.specs.Places.{place_in, place_of}
use Rattle.ode_symbols.proofs.alphabet.Alphabet.place.Given as goal

-- the symbols of the rows so far are passed
abbrev pub invariant-loop-row : goal.invariant-loop-row
invariant-loop-row l = place_of l.self l.symbol ≡ place_in l.self.masks (drop l.row-index l.row-items) l.number
