use Rattle.std.proofs.Common.{◌≡◌, ◌+◌, drop, take}
use Rattle.std.specs.Prelude.{sum_by}
use Rattle.std.specs.Option.{option_map_or}
use Rattle.ode_value.specs.Symbols.{composite_bits, number_in, symbol_among, symbols_apart, symbols_in}
use Rattle.ode_symbols.proofs.alphabet.Alphabet.symbol.Given as goal

-- the symbols of the rows so far are passed
abbrev pub invariant-loop-row : goal.invariant-loop-row
invariant-loop-row l =
    (l.before ≡ symbols_apart l.self.masks + sum_by (symbols_in l.self.masks) (take l.row-index l.row-items)) × (symbol_among l.self l.params (record { kind = l.kind; args = l.args; fields = l.own })
    ≡ option_map_or (λ n. l.before + n) (number_in l.self.masks (drop l.row-index l.row-items) l.params (record { kind = l.kind; args = l.args; fields = l.own })) (composite_bits l.self.masks l.params l.own))
