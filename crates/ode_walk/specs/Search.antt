-- A search by breadth over pairs of states.
use Rattle.std.specs.Prelude.{◌≡◌, ℕ, ◌+◌, ◌*◌, ◌<◌, ◌≤◌, Bool, true, false, List, [], ◌∷◌, ◌++◌, All, length, count_by, reverse, slice_index_or}
use Rattle.ode_value.specs.Tables.{Table, next_state, run, says_yes}
use Rattle.ode_walk.specs.Relation.{is_lower}
use Rattle.ode_walk.specs.declared.visit.Visit.{Visit}

-- the start of both tables
abbrev pub first_visit : Visit
first_visit = record { stored = 0; built = 0; from = 0; symbol = 0; length = 0 }

abbrev pub visit_at : List Visit → ℕ → Visit
visit_at visits k = slice_index_or visits k first_visit

-- each visit but the first comes from one before it
abbrev pub GoesBack : List Visit → Type 0
GoesBack visits = (k : ℕ) → 0 < k → k < length visits → (visit_at visits k).from < k

-- a visit is by a step from another one
pub record IsStepTo (stored built : Table) (before now : Visit) : Type 0 where
  pub symbol : now.symbol < stored.symbols
  pub stored_next : now.stored ≡ next_state stored before.stored now.symbol
  pub built_next : now.built ≡ next_state built before.built now.symbol
  pub length : now.length ≡ before.length + 1

-- each visit but the first is by a step from the one that it names
pub record IsTree (stored built : Table) (visits : List Visit) : Type 0 where
  pub first : visit_at visits 0 ≡ first_visit
  pub back : GoesBack visits
  pub steps : (k : ℕ) → 0 < k → k < length visits → IsStepTo stored built (visit_at visits (visit_at visits k).from) (visit_at visits k)

-- a pair of states was visited, by a word of at most this length
pub record IsVisited (visits : List Visit) (p q most : ℕ) : Type 0 where
  pub place : ℕ
  pub within : place < length visits
  pub stored : (visit_at visits place).stored ≡ p
  pub built : (visit_at visits place).built ≡ q
  pub length : (visit_at visits place).length ≤ most

-- a pair of states was visited
pub record IsMet (visits : List Visit) (p q : ℕ) : Type 0 where
  pub place : ℕ
  pub within : place < length visits
  pub stored : (visit_at visits place).stored ≡ p
  pub built : (visit_at visits place).built ≡ q

-- the same before a place
pub record IsMetBefore (visits : List Visit) (limit p q : ℕ) : Type 0 where
  pub place : ℕ
  pub before : place < limit
  pub stored : (visit_at visits place).stored ≡ p
  pub built : (visit_at visits place).built ≡ q

-- the word of a visit, its last symbol first
abbrev pub IsWordBack : List Visit → ℕ → List ℕ → Type 0
IsWordBack visits k [] = k ≡ 0
IsWordBack visits k (s ∷ back) = (0 < k) × (k < length visits) × ((visit_at visits k).symbol ≡ s) × IsWordBack visits (visit_at visits k).from back

-- the word of a visit with one more symbol
pub record IsLonger (visits : List Visit) (at symbol : ℕ) (word : List ℕ) : Type 0 where
  pub back : List ℕ
  pub of : IsWordBack visits at back
  pub is : word ≡ reverse back ++ symbol ∷ []

-- what words lead to that are lower than the word of the visit at a place was met before it
abbrev pub IsFirst : Table → Table → List Visit → ℕ → Type 0
IsFirst stored built visits k =
    (back other : List ℕ) → IsWordBack visits k back → length other ≡ length back → is_lower other (reverse back) ≡ true → All (λ s. s < stored.symbols) other
    → IsMetBefore visits k (run stored 0 other) (run built 0 other)

-- by a symbol from these two states on the tables answer alike, and the pair of states was visited
pub record IsStepped (stored built : Table) (visits : List Visit) (v : Visit) (s : ℕ) : Type 0 where
  pub answers : says_yes stored (next_state stored v.stored s) ≡ says_yes built (next_state built v.built s)
  pub visited : IsVisited visits (next_state stored v.stored s) (next_state built v.built s) (v.length + 1)

abbrev pub pair_of : Table → ℕ → ℕ → ℕ
pair_of built p q = p * built.states + q

-- The visits at places below `head` were stepped by each symbol, and the one there by each symbol below `upto`.
pub record IsSearch (stored built : Table) (visits : List Visit) (seen : List Bool) (head upto : ℕ) : Type 0 where
  pub some : 0 < length visits
  pub tree : IsTree stored built visits
  pub stored_below : (k : ℕ) → (visit_at visits k).stored < stored.states
  pub built_below : (k : ℕ) → (visit_at visits k).built < built.states
  pub short : (k : ℕ) → (visit_at visits k).length ≤ k
  pub rising : (j k : ℕ) → j ≤ k → k < length visits → (visit_at visits j).length ≤ (visit_at visits k).length
  pub first : (k : ℕ) → k < length visits → IsFirst stored built visits k
  pub near : (k : ℕ) → head < length visits → k < length visits → (visit_at visits k).length ≤ (visit_at visits head).length + 1
  pub pairs : length seen ≡ stored.states * built.states
  pub known : (p q : ℕ) → p < stored.states → q < built.states → slice_index_or seen (pair_of built p q) false ≡ true
      → IsVisited visits p q (length visits)
  pub once : count_by (λ b. b) seen ≡ length visits
  pub within : head ≤ length visits
  pub stepped : (k s : ℕ) → k < head → s < stored.symbols → IsStepped stored built visits (visit_at visits k) s
  pub here : (s : ℕ) → s < upto → IsStepped stored built visits (visit_at visits head) s

-- the visits are those of all pairs of states that words lead to
pub record IsExplored (stored built : Table) (visits : List Visit) : Type 0 where
  pub some : 0 < length visits
  pub tree : IsTree stored built visits
  pub stored_below : (k : ℕ) → (visit_at visits k).stored < stored.states
  pub built_below : (k : ℕ) → (visit_at visits k).built < built.states
  pub stepped : (k s : ℕ) → k < length visits → s < stored.symbols → IsStepped stored built visits (visit_at visits k) s
