-- For each state and symbol the states that the symbol leads to it from.
use Rattle.std.specs.Prelude.{◌≡◌, ℕ, ◌+◌, ◌*◌, ◌<◌, List, [], length, Contains, slice_index, slice_index_or}
use Rattle.ode_value.specs.Tables.{Table, next_state}

-- those of a state, by a symbol
abbrev pub sources : Table → List (List ℕ) → ℕ → ℕ → List ℕ
sources t lists r s = slice_index_or lists (r * t.symbols + s) []

-- The states below `head` are in the lists by each symbol, and that one by each symbol below `upto`.
pub record IsFilled (t : Table) (lists : List (List ℕ)) (head upto : ℕ) : Type 0 where
  pub rows : length lists ≡ t.states * t.symbols
  pub states : (r s j : ℕ) → s < t.symbols → j < length (sources t lists r s) → slice_index (sources t lists r s) j < t.states
  pub lead : (r s j : ℕ) → s < t.symbols → j < length (sources t lists r s) → next_state t (slice_index (sources t lists r s) j) s ≡ r
  pub to : (q s : ℕ) → q < head → s < t.symbols → next_state t q s < t.states
  pub each : (q s : ℕ) → q < head → s < t.symbols → Contains (sources t lists (next_state t q s) s) q
  pub to_here : (s : ℕ) → s < upto → next_state t head s < t.states
  pub here : (s : ℕ) → s < upto → Contains (sources t lists (next_state t head s) s) head

pub record IsSources (t : Table) (lists : List (List ℕ)) : Type 0 where
  pub rows : length lists ≡ t.states * t.symbols
  pub states : (r s j : ℕ) → s < t.symbols → j < length (sources t lists r s) → slice_index (sources t lists r s) j < t.states
  pub lead : (r s j : ℕ) → s < t.symbols → j < length (sources t lists r s) → next_state t (slice_index (sources t lists r s) j) s ≡ r
  pub to : (q s : ℕ) → q < t.states → s < t.symbols → next_state t q s < t.states
  pub each : (q s : ℕ) → q < t.states → s < t.symbols → Contains (sources t lists (next_state t q s) s) q
