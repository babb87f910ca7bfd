-- What two tables of one number of symbols have to do with each other.
use Rattle.std.specs.Prelude.{◌≡◌, ◌≢◌, ℕ, ◌*◌, ◌<◌, ◌≤◌, ◌==◌, nat_lt, ◌&&◌, ◌||◌, Bool, true, false, List, [], ◌∷◌, length, All, Option, Some, None, IsSome, slice_index_or}
use Rattle.ode_value.specs.Tables.{Table, IsWord, run, says_yes}
use Rattle.ode_walk.specs.declared.error.RelateError.{RelateError}
use Rattle.ode_walk.specs.declared.error.RelateError.TheVariants.{Memory, Differs}

-- a word, perhaps empty, leads the one table to q and the other to r
pub record Leads (stored built : Table) (word : List ℕ) (q r : ℕ) : Type 0 where
  pub symbols : All (λ s. s < stored.symbols) word
  pub to_stored : run stored 0 word ≡ q
  pub to_built : run built 0 word ≡ r

-- some word, perhaps empty, leads to q
pub record IsReached (t : Table) (q : ℕ) : Type 0 where
  pub word : List ℕ
  pub symbols : All (λ s. s < t.symbols) word
  pub reached : run t 0 word ≡ q

-- on this word the one table answers from q as the other does from r
abbrev pub AnswersAlike : Table → ℕ → Table → ℕ → List ℕ → Type 0
AnswersAlike stored q built r word = says_yes stored (run stored q word) ≡ says_yes built (run built r word)

-- on every word that isn't empty
abbrev pub IsAlike : Table → ℕ → Table → ℕ → Type 0
IsAlike stored q built r = (word : List ℕ) → IsWord stored.symbols word → AnswersAlike stored q built r word

-- the tables agree on every word that isn't empty
abbrev pub Agrees : Table → Table → Type 0
Agrees stored built = IsAlike stored 0 built 0

-- a state of the built table for a stored one: a word leads to both, and they answer alike
pub record IsPartner (stored built : Table) (q r : ℕ) : Type 0 where
  pub word : List ℕ
  pub leads : Leads stored built word q r
  pub state : r < built.states
  pub alike : IsAlike stored q built r

-- a partner for each stored state that a word reaches, and for no other
pub record IsRelation (stored built : Table) (numbers : List (Option ℕ)) : Type 0 where
  pub states : length numbers ≡ stored.states
  pub reached : (q : ℕ) → IsReached stored q → IsSome (slice_index_or numbers q None)
  pub partners : (q r : ℕ) → slice_index_or numbers q None ≡ Some r → IsPartner stored built q r

-- a word has the lower symbol at the first place where it differs from another one
abbrev pub is_lower : List ℕ → List ℕ → Bool
is_lower [] other = false
is_lower (s ∷ word) [] = false
is_lower (s ∷ word) (u ∷ other) = nat_lt s u || (s == u && is_lower word other)

-- a word tells the tables apart, and no shorter one does, nor a lower one of its length; it has no more symbols than there are pairs of
-- states
pub record IsShortest (stored built : Table) (word : List ℕ) : Type 0 where
  pub is_word : IsWord stored.symbols word
  pub differs : says_yes stored (run stored 0 word) ≢ says_yes built (run built 0 word)
  pub shortest : (other : List ℕ) → IsWord stored.symbols other → length other < length word → AnswersAlike stored 0 built 0 other
  pub least : (other : List ℕ) → IsWord stored.symbols other → length other ≡ length word → is_lower other word ≡ true → AnswersAlike stored 0 built 0 other
  pub limit : length word ≤ stored.states * built.states

-- tables are told apart by the least of the shortest words that do
abbrev pub IsCause : Table → Table → RelateError → Type 0
IsCause stored built Memory = Unit {0}
IsCause stored built (Differs word) = IsShortest stored built word
