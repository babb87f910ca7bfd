-- Alike states put together.
use Rattle.std.specs.Prelude.{◌≡◌, ℕ, ◌+◌, ◌*◌, ◌^◌, ◌<◌, ◌≤◌, List, length, map, count_by, is_some, Option, Some, None, slice_index, slice_index_or, slice_set, [], ◌∷◌, ◌++◌}
use Rattle.ode_value.specs.Tables.{Table, next_state, says_yes}
use Rattle.ode_minimal.specs.declared.collapse.Collapse.{Collapse}
use Rattle.ode_minimal.specs.Minimal.{IsAlike}

-- no state before it is alike
abbrev pub IsFirst : Table → ℕ → Type 0
IsFirst t q = (p : ℕ) → p < q → IsAlike t p q → ⊥

-- a state of the smaller table is behind a step of one before it
pub record IsStepped (symbols : ℕ) (next : List ℕ) (n : ℕ) : Type 0 where
  pub from : ℕ
  pub symbol : ℕ
  pub before : from < n
  pub is_symbol : symbol < symbols
  pub within : from * symbols + symbol < length next
  pub to : slice_index next (from * symbols + symbol) ≡ n

-- a number is that of a state, and the state is alike
pub record IsFor (t : Table) (states : List ℕ) (n q : ℕ) : Type 0 where
  pub within : n < length states
  pub alike : IsAlike t (slice_index states n) q

-- a state's number, and what is kept after a state without one took the next
abbrev pub IsNumbered : Option ℕ → Collapse → Collapse → ℕ → ℕ → Type 0
IsNumbered (Some m) old new q n = (n ≡ m) × (new ≡ old)
IsNumbered None old new q n =
    (n ≡ length old.states)
    × (new ≡ record { states = old.states ++ q ∷ []; numbers = slice_set old.numbers q (Some (length old.states)); next = old.next })

-- The smaller table's states are the first of their kind, and the rows of those below `head` are there, and of that one's the
-- numbers by the symbols below `upto`.
pub record IsCollapse (t : Table) (c : Collapse) (head upto : ℕ) : Type 0 where
  pub few : t.states < 2 ^ 16
  pub some : 0 < length c.states
  pub start : slice_index c.states 0 ≡ 0
  pub below : (n : ℕ) → n < length c.states → slice_index c.states n < t.states
  pub first : (n : ℕ) → n < length c.states → IsFirst t (slice_index c.states n)
  pub rows : length c.numbers ≡ t.states
  pub numbered : (n : ℕ) → n < length c.states → slice_index_or c.numbers (slice_index c.states n) None ≡ Some n
  pub numbers : (q n : ℕ) → slice_index_or c.numbers q None ≡ Some n → (n < length c.states) × (slice_index c.states n ≡ q)
  pub once : count_by is_some c.numbers ≡ length c.states
  pub within : head ≤ length c.states
  pub places : length c.next ≡ head * t.symbols + upto
  pub steps : (n s : ℕ) → s < t.symbols → n * t.symbols + s < length c.next
      → IsFor t c.states (slice_index c.next (n * t.symbols + s)) (next_state t (slice_index c.states n) s)
  pub stepped : (n : ℕ) → 0 < n → n < length c.states → IsStepped t.symbols c.next n

-- the table with all rows
abbrev pub table_of : Table → List ℕ → List ℕ → Table
table_of t states next = record { states = length states; symbols = t.symbols; next = next; yes = map (says_yes t) states }
