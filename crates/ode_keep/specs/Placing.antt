-- Where a key belongs among keys that rise.
use Rattle.std.specs.Prelude.{◌≡◌, ◌≤◌, ℕ, [], ◌∷◌, length, take, drop, true, false}
use Rattle.std.specs.List.{AllByRecursion}
use Rattle.std.specs.Map.{keys_of}
use Rattle.std.specs.Ordering.{is_eq, is_le}
use Rattle.std.specs.declared.cmp.Ordering.TheVariants.{Less}
use Rattle.ode_value.specs.declared.key.Key.{Key}
use Rattle.ode_value.specs.Keys.{key_cmp}
use Rattle.ode_keep.specs.Entries.{Changes}

-- the keys in front of the place are below this one, and the others aren't
pub record IsPlace (changes : Changes) (k : Key) (at : ℕ) : Type 0 where
  pub within : at ≤ length changes
  pub below : AllByRecursion (λ y. key_cmp y k ≡ Less) (keys_of (take at changes))
  pub above : AllByRecursion (λ y. is_le (key_cmp k y) ≡ true) (keys_of (drop at changes))

-- the first change, if there is one, has another key
abbrev pub IsFree : Changes → Key → Type 0
IsFree [] k = Unit {0}
IsFree (e ∷ es) k = is_eq (key_cmp k e.0) ≡ false
