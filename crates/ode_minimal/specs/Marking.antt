-- Marks on the pairs of states that some word tells apart.
use Rattle.std.specs.Prelude.{◌≡◌, ◌≢◌, ℕ, ◌+◌, ◌*◌, ◌<◌, ◌≤◌, Bool, true, false, List, length, count_by, slice_index, slice_index_or}
use Rattle.ode_value.specs.Tables.{Table, next_state, says_yes}
use Rattle.ode_minimal.specs.declared.marking.Marks.{Marks}
use Rattle.ode_minimal.specs.Minimal.{IsAlike, IsApart}

abbrev pub pair_at : List (ℕ × ℕ) → ℕ → ℕ × ℕ
pair_at pairs k = slice_index_or pairs k (0, 0)

abbrev pub is_marked : Table → List Bool → ℕ → ℕ → Bool
is_marked t marked p q = slice_index_or marked (p * t.states + q) false

abbrev pub IsMarked : Table → Marks → ℕ → ℕ → Type 0
IsMarked t marks p q = is_marked t marks.marked p q ≡ true

-- a pair of states that is apart is listed at this place
pub record IsListed (t : Table) (pairs : List (ℕ × ℕ)) (p q : ℕ) : Type 0 where
  pub place : ℕ
  pub within : place < length pairs
  pub first : (pair_at pairs place).0 ≡ p
  pub second : (pair_at pairs place).1 ≡ q

-- the marked pairs are those listed, each once, and they are apart
pub record IsMarking (t : Table) (marks : Marks) : Type 0 where
  pub some : 0 < t.states
  pub rows : length marks.marked ≡ t.states * t.states
  pub first : (k : ℕ) → (pair_at marks.pairs k).0 < t.states
  pub second : (k : ℕ) → (pair_at marks.pairs k).1 < t.states
  pub apart : (k : ℕ) → k < length marks.pairs → IsApart t (pair_at marks.pairs k).0 (pair_at marks.pairs k).1
  pub listed : (p q : ℕ) → p < t.states → q < t.states → IsMarked t marks p q → IsListed t marks.pairs p q
  pub once : count_by (λ b. b) marks.marked ≡ length marks.pairs

-- what was marked and listed still is
pub record Grows (old new : Marks) : Type 0 where
  pub longer : length old.pairs ≤ length new.pairs
  pub pairs : (k : ℕ) → k < length old.pairs → pair_at new.pairs k ≡ pair_at old.pairs k
  pub marked : (i : ℕ) → slice_index_or old.marked i false ≡ true → slice_index_or new.marked i false ≡ true

-- the pairs of a state with each of these are marked
abbrev pub MarksAll : Table → Marks → ℕ → List ℕ → Type 0
MarksAll t marks p qs = (j : ℕ) → j < length qs → IsMarked t marks p (slice_index qs j)

-- the pairs that a symbol below this one leads to a pair are marked
abbrev pub MarksSources : Table → Marks → ℕ × ℕ → ℕ → Type 0
MarksSources t marks pair upto = (s p q : ℕ) → s < upto → p < t.states → q < t.states
    → next_state t p s ≡ pair.0 → next_state t q s ≡ pair.1 → IsMarked t marks p q

-- the pairs of a state with each below this one that has another answer are marked
abbrev pub MarksUnequal : Table → Marks → ℕ → ℕ → Type 0
MarksUnequal t marks p upto = (q : ℕ) → q < upto → says_yes t p ≢ says_yes t q → IsMarked t marks p q

-- each pair of states is marked or alike
pub record IsDecided (t : Table) (marked : List Bool) : Type 0 where
  pub rows : length marked ≡ t.states * t.states
  pub apart : (p q : ℕ) → p < t.states → q < t.states → is_marked t marked p q ≡ true → IsApart t p q
  pub alike : (p q : ℕ) → p < t.states → q < t.states → is_marked t marked p q ≡ false → IsAlike t p q
