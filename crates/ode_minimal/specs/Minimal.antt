-- What a smaller table has to do with the larger one.
use Rattle.std.specs.Prelude.{◌≡◌, ◌≢◌, ℕ, ◌<◌, List, All}
use Rattle.ode_value.specs.Tables.{Table, run, says_yes}

-- a word of a table's symbols, perhaps empty
abbrev pub IsOf : Table → List ℕ → Type 0
IsOf t word = All (λ s. s < t.symbols) word

-- no word, the empty one included, tells two states apart
abbrev pub IsAlike : Table → ℕ → ℕ → Type 0
IsAlike t p q = (word : List ℕ) → IsOf t word → says_yes t (run t p word) ≡ says_yes t (run t q word)

-- some word does
pub record IsApart (t : Table) (p q : ℕ) : Type 0 where
  pub word : List ℕ
  pub symbols : IsOf t word
  pub differs : says_yes t (run t p word) ≢ says_yes t (run t q word)

-- two tables have the same symbols, and answer alike on every word, the empty one included
pub record AnswersAs (t small : Table) : Type 0 where
  pub symbols : small.symbols ≡ t.symbols
  pub answers : (word : List ℕ) → IsOf t word → says_yes small (run small 0 word) ≡ says_yes t (run t 0 word)

-- a word leads to each state
abbrev pub IsReached : Table → Type 0
IsReached t = (q : ℕ) → q < t.states → (word : List ℕ) × IsOf t word × (run t 0 word ≡ q)

-- no two states are alike
abbrev pub IsMinimal : Table → Type 0
IsMinimal t = (p q : ℕ) → p < t.states → q < t.states → IsAlike t p q → p ≡ q
