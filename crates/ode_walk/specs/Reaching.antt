-- The states that words lead to, told without a word.
use Rattle.std.specs.Prelude.{◌≡◌, ℕ, zero, suc, ◌<◌, ◌≤◌, Bool, true, false, List, length, count_by, nat_lt, ◌==◌, ◌&&◌, ◌||◌, slice_index_or}
use Rattle.std.specs.List.{list_any, range_with_len}
use Rattle.ode_value.specs.Tables.{Table, next_state}

-- a symbol leads from a state to another one
abbrev pub steps_to : Table → ℕ → ℕ → Bool
steps_to t p q = list_any (λ s. next_state t p s == q) (range_with_len 0 t.symbols)

-- a word, perhaps empty, leads from a state to another one, and in between to states below a number alone
unfoldable pub leads_below : Table → ℕ → ℕ → ℕ → Bool
leads_below t zero p q = p == q || steps_to t p q
leads_below t (suc n) p q = leads_below t n p q || (leads_below t n p n && leads_below t n n q)

-- some word, perhaps empty, leads to a state
abbrev pub is_reached : Table → ℕ → Bool
is_reached t q = nat_lt q t.states && leads_below t t.states 0 q

-- ---- a search by breadth over states

-- a state is among those that were found
abbrev pub IsSeen : List Bool → ℕ → Type 0
IsSeen seen q = slice_index_or seen q false ≡ true

abbrev pub state_at : List ℕ → ℕ → ℕ
state_at states k = slice_index_or states k 0

-- a state stands at a place
pub record IsListed (states : List ℕ) (q : ℕ) : Type 0 where
  pub place : ℕ
  pub within : place < length states
  pub is : state_at states place ≡ q

-- The states that were found, each once. Those at places below `head` were stepped by each symbol, and the one there by each symbol
-- below `upto`.
pub record IsFront (t : Table) (states : List ℕ) (seen : List Bool) (head upto : ℕ) : Type 0 where
  pub start : IsSeen seen 0
  pub flags : length seen ≡ t.states
  pub listed : (q : ℕ) → IsSeen seen q → IsListed states q
  pub below : (k : ℕ) → state_at states k < t.states
  pub reached : (k : ℕ) → k < length states → is_reached t (state_at states k) ≡ true
  pub once : count_by (λ b. b) seen ≡ length states
  pub within : head ≤ length states
  pub stepped : (k s : ℕ) → k < head → s < t.symbols → IsSeen seen (next_state t (state_at states k) s)
  pub here : (s : ℕ) → s < upto → IsSeen seen (next_state t (state_at states head) s)
