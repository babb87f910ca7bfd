-- What is found passes the test.
use Rattle.std.proofs.Common.{◌≡◌, List, [], ◌∷◌, Bool, true, false, cond, Option, Some, refl, subst}
use Rattle.std.specs.List.{AllByRecursion, filter, find}
use Rattle.std.specs.Map.{keys_of}
use Rattle.std.specs.Option.{IfSome}
use Rattle.std.specs.Ordering.{is_le}
use Rattle.ode_value.specs.declared.key.Key.{Key}
use Rattle.ode_keep.specs.Entries.{Entries, StartsOf, entries_from, least_from}
use Rattle.ode_value.specs.Keys.{key_cmp}
use Rattle.ode_value.specs.Records.{Row}
use Rattle.ode_keep.proofs.Lists.{all_front}

module _ {X : Type 0} (p : X → Bool) where
  found_at : (x : X) (rest : Option X) (b : Bool) → p x ≡ b → IfSome rest (λ y. p y ≡ true) → IfSome (cond b (Some x) rest) (λ y. p y ≡ true)
  found_at x rest true is more = is
  found_at x rest false is more = more

  found_passes : (xs : List X) → IfSome (find p xs) (λ y. p y ≡ true)
  found_passes [] = tt
  found_passes (x ∷ xs) = found_at x (find p xs) (p x) refl (found_passes xs)

  kept_at : (x : X) (rest : List X) (b : Bool) → p x ≡ b → AllByRecursion (λ y. p y ≡ true) rest → AllByRecursion (λ y. p y ≡ true) (cond b (x ∷ rest) rest)
  kept_at x rest true is more = (is, more)
  kept_at x rest false is more = more

  kept_pass : (xs : List X) → AllByRecursion (λ y. p y ≡ true) (filter p xs)
  kept_pass [] = tt
  kept_pass (x ∷ xs) = kept_at x (filter p xs) (p x) refl (kept_pass xs)

-- the least key from another on is not below it
pub least_above : (es : Entries) (k : Key) → IfSome (least_from es k) (λ q. is_le (key_cmp k q) ≡ true)
least_above es k = found_passes (λ q. is_le (key_cmp k q)) (keys_of es)

-- nor are the keys of some of the first records from it on
pub rows_above : (rows es : Entries) (k : Key) → StartsOf rows (entries_from es k) → AllByRecursion (λ (e : Row). is_le (key_cmp k e.0) ≡ true) rows
rows_above [] es k starts = tt
rows_above (r ∷ rows) es k starts =
    all_front (λ (e : Row). is_le (key_cmp k e.0) ≡ true) (r ∷ rows) starts.0
    (subst (λ (l : Entries). AllByRecursion (λ (e : Row). is_le (key_cmp k e.0) ≡ true) l) starts.1 (kept_pass (λ (e : Row). is_le (key_cmp k e.0)) es))
