-- Records cut at a key.
use Rattle.std.specs.Prelude.{◌≡◌, ◌∷◌, ◌++◌, ℕ, List, [], length, true, Result, Ok, Err}
use Rattle.std.specs.List.{AllByRecursion}
use Rattle.std.specs.Map.{keys_of}
use Rattle.std.specs.Ordering.{is_le}
use Rattle.std.specs.declared.cmp.Ordering.TheVariants.{Less}
use Rattle.ode_value.specs.declared.key.Key.{Key}
use Rattle.ode_value.specs.Keys.{key_cmp}
use Rattle.ode_keep.specs.Entries.{Entries}

-- there are records, and the first of them is at or below a key
abbrev pub BeginBy : Entries → Key → Type 0
BeginBy [] k = ⊥
BeginBy (r ∷ rows) k = is_le (key_cmp r.0 k) ≡ true

-- all keys are below k
abbrev pub AreBelow : Key → List Key → Type 0
AreBelow k ks = AllByRecursion (λ y. key_cmp y k ≡ Less) ks

-- all keys are above k
abbrev pub AreAbove : Key → List Key → Type 0
AreAbove k ks = AllByRecursion (λ y. key_cmp k y ≡ Less) ks

-- records in three parts: the keys of the first are below k, and those of the last above it
pub record IsCut (rows : Entries) (k : Key) (before here behind : Entries) : Type 0 where
  pub whole : rows ≡ before ++ (here ++ behind)
  pub below : AreBelow k (keys_of before)
  pub above : AreAbove k (keys_of behind)

-- the records are cut at a place, with these between
pub record IsCutAt (rows : Entries) (k : Key) (at : ℕ) (here : Entries) : Type 0 where
  pub before : Entries
  pub behind : Entries
  pub cut : IsCut rows k before here behind
  pub place : at ≡ length before

-- where the record of a key is, or where it would be
abbrev pub IsPlace : Entries → Key → Result ℕ ℕ → Type 0
IsPlace rows k (Ok at) = (value : List ℕ) × IsCutAt rows k at ((k, value) ∷ [])
IsPlace rows k (Err at) = IsCutAt rows k at []
