-- What the tokens of a text stand for.
use Rattle.std.specs.Prelude.{◌≡◌, true, List, [], ◌∷◌}
use Rattle.ode_grammar.specs.declared.terminal.Terminal.{Terminal}
use Rattle.ode_grammar.specs.Terminals.{stands_for}

-- each of the tokens stands for the one at its place: a word that isn't reserved for itself or for a name, any other for itself
abbrev pub StandFor : List Terminal → List Terminal → Type 0
StandFor [] [] = Unit {0}
StandFor (t ∷ ts) (k ∷ ks) = (stands_for t k ≡ true) × StandFor ts ks
StandFor ts ks = ⊥

-- the tokens stand for such ones
abbrev pub StandsFor : (List Terminal → Type 0) → List Terminal → Type 0
StandsFor P tokens = (read : List Terminal) × StandFor tokens read × P read
