-- Tables, and what they say of an event expression.
use Rattle.std.specs.Prelude.{◌≡◌, ℕ, ◌+◌, ◌*◌, ◌<◌, Bool, false, List, ◌++◌, length, map, fold, All, slice_index, slice_index_or}
use Rattle.ode_value.specs.declared.event.EventExpr.{EventExpr}
use Rattle.ode_value.specs.Marks.{Mark}
use Rattle.ode_value.specs.Points.{fires}
use Rattle.ode_value.specs.Symbols.{symbol_count, symbol_mark}

-- States and symbols are numbered from 0, and state 0 is the start. `next` has a row of states for each state, and `yes` its answer.
pub record Table : Type 0 where
  pub states : ℕ
  pub symbols : ℕ
  pub next : List ℕ
  pub yes : List Bool

abbrev pub next_state : Table → ℕ → ℕ → ℕ
next_state t q s = slice_index t.next (q * t.symbols + s)

abbrev pub says_yes : Table → ℕ → Bool
says_yes t q = slice_index_or t.yes q false

-- the state that a word leads to
abbrev pub run : Table → ℕ → List ℕ → ℕ
run t q word = fold (next_state t) q word

-- a word of symbols, which isn't empty
pub record IsWord (symbols : ℕ) (word : List ℕ) : Type 0 where
  pub some : 0 < length word
  pub each : All (λ s. s < symbols) word

abbrev pub word_marks : EventExpr → List ℕ → List Mark
word_marks e word = map (symbol_mark e) word

-- from a state on the table answers as the expression does behind a history with these marks
abbrev pub AnswersAfter : Table → ℕ → EventExpr → List Mark → Type 0
AnswersAfter t q e m = (word : List ℕ) → IsWord t.symbols word → says_yes t (run t q word) ≡ fires e (m ++ word_marks e word)

-- the table means the expression
pub record Means (t : Table) (e : EventExpr) : Type 0 where
  pub symbols : t.symbols ≡ symbol_count e
  pub answers : (word : List ℕ) → IsWord t.symbols word → says_yes t (run t 0 word) ≡ fires e (word_marks e word)

-- the state stands for a history with these marks
pub record Stands (t : Table) (q : ℕ) (e : EventExpr) (m : List Mark) : Type 0 where
  pub word : List ℕ
  pub symbols : All (λ s. s < t.symbols) word
  pub reached : run t 0 word ≡ q
  pub answers : AnswersAfter t q e m
