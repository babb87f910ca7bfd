-- Where a symbol stands in an alphabet.
use Rattle.std.specs.Prelude.{ℕ, ◌-◌, nat_lt, cond, List, [], ◌∷◌, Option, Some, None}
use Rattle.ode_value.specs.declared.event.Kind.{Kind}
use Rattle.ode_value.specs.declared.statement.Expr.{Expr}
use Rattle.ode_value.specs.Symbols.{Alphabet, MaskedKind, symbols_apart, symbols_in}

-- a kind, if it is one of the alphabet's, and a number among the symbols of its points
abbrev pub Place : Type 0
Place = Option Kind × ℕ

abbrev pub place_in : List Expr → List MaskedKind → ℕ → Place
place_in masks [] n = (None, n)
place_in masks (row ∷ rest) n = cond (nat_lt n (symbols_in masks row)) (Some row.kind, n) (place_in masks rest (n - symbols_in masks row))

-- where a symbol stands
abbrev pub place_of : Alphabet → ℕ → Place
place_of a s = cond (nat_lt s (symbols_apart a.masks)) (None, s) (place_in a.masks a.kinds (s - symbols_apart a.masks))
