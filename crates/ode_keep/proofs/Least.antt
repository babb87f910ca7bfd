-- Of keys that rise the first at or above a key is the least of these.
use Rattle.std.proofs.Common.{◌≡◌, ℕ, List, [], ◌∷◌, Bool, true, false, cond, Option, Some, None, refl, ap, subst}
use Rattle.std.specs.BTreeMap.{is_at}
use Rattle.std.specs.List.{AllByRecursion}
use Rattle.std.specs.List.Sorted.{IsStrictlySortedBy}
use Rattle.std.specs.Map.{keys_of}
use Rattle.std.specs.Option.{IsSome, is_some}
use Rattle.std.specs.Ordering.{is_eq, is_le}
use Rattle.std.specs.declared.cmp.Ordering.TheVariants.{Less}
use Rattle.std.proofs.lemmas.Cmp.{tied_itself}
use Rattle.ode_value.specs.declared.key.Key.{Key}
use Rattle.ode_value.specs.Records.{Row}
use Rattle.ode_keep.specs.Entries.{Entries, HasRisingKeys, least_from, value_under}
use Rattle.ode_value.specs.Keys.{key_cmp}
use Rattle.ode_keep.proofs.Keys.{key_total, same_key}

-- a key of the entries that is at or above k, and below no other such
pub record IsLeastFrom (entries : Entries) (k q : Key) : Type 0 where
  pub above : is_le (key_cmp k q) ≡ true
  pub stands : IsSome (value_under entries q)
  pub least : (r : Key) → IsSome (value_under entries r) → is_le (key_cmp k r) ≡ true → is_le (key_cmp q r) ≡ true

itself : (q : Key) → is_at (key_cmp q) q ≡ true
itself q = ap is_eq (tied_itself key_total q)

-- what every key has, a key with a value has
held_at : (P : Key → Type 0) (q : Key) (e : Row) (es : Entries) → P e.0 → (IsSome (value_under es q) → P q) → (b : Bool) → is_at (key_cmp q) e.0 ≡ b → IsSome (cond b (Some e.1) (value_under es q)) → P q
held_at P q e es here later true is some = subst P (same_key q e.0 is) here
held_at P q e es here later false is some = later some

held : (P : Key → Type 0) (q : Key) (es : Entries) → AllByRecursion P (keys_of es) → IsSome (value_under es q) → P q
held P q [] all some = absurd (cc)
held P q (e ∷ es) all some = held_at P q e es all.0 (held P q es all.1) (is_at (key_cmp q) e.0) refl some

from_less : (k : Key) (ks : List Key) → AllByRecursion (λ y. key_cmp k y ≡ Less) ks → AllByRecursion (λ y. is_le (key_cmp k y) ≡ true) ks
from_less k [] all = tt
from_less k (y ∷ ks) all = (ap is_le all.0, from_less k ks all.1)

some_later : (b : Bool) (v : List ℕ) (found : Option (List ℕ)) → IsSome found → IsSome (cond b (Some v) found)
some_later true v found some = refl
some_later false v found some = some

least_at : (k q : Key) (e : Row) (es : Entries) → HasRisingKeys (e ∷ es) → (least_from es k ≡ Some q → IsLeastFrom es k q) → (b : Bool) → is_le (key_cmp k e.0) ≡ b → cond b (Some e.0) (least_from es k) ≡ Some q → IsLeastFrom (e ∷ es) k q
unfolding IsStrictlySortedBy
least_at k q e es rising later true is found =
    let same : e.0 ≡ q = cc (found) in
    subst (λ (p : Key). IsLeastFrom (e ∷ es) k p) same (record {
      above = is;
      stands = ap (λ b. is_some (cond b (Some e.1) (value_under es e.0))) (itself e.0);
      least = λ r some above. held (λ y. is_le (key_cmp e.0 y) ≡ true) r (e ∷ es) (ap is_le (tied_itself key_total e.0), from_less e.0 (keys_of es) rising.0) some;
    })
least_at k q e es rising later false is found =
    let rest = later found in record {
      above = rest.above;
      stands = some_later (is_at (key_cmp q) e.0) e.1 (value_under es q) rest.stands;
      least = λ r some above. held_at (λ y. is_le (key_cmp k y) ≡ true → is_le (key_cmp q y) ≡ true) r e es (λ le. absurd (cc (is, le))) (λ some _. rest.least r some above) (is_at (key_cmp r) e.0) refl some above;
    }

pub least_is : (entries : Entries) (k q : Key) → HasRisingKeys entries → least_from entries k ≡ Some q → IsLeastFrom entries k q
unfolding IsStrictlySortedBy
least_is [] k q rising found = absurd (cc)
least_is (e ∷ es) k q rising found = least_at k q e es rising (λ later. least_is es k q rising.1 later) (is_le (key_cmp k e.0)) refl found

none_at : (k r : Key) (e : Row) (es : Entries) → (least_from es k ≡ None → IsSome (value_under es r) → is_le (key_cmp k r) ≡ false) → (b : Bool) → is_le (key_cmp k e.0) ≡ b → cond b (Some e.0) (least_from es k) ≡ None → IsSome (value_under (e ∷ es) r) → is_le (key_cmp k r) ≡ false
none_at k r e es later true is found some = absurd (cc)
none_at k r e es later false is found some = held_at (λ y. is_le (key_cmp k y) ≡ false) r e es is (later found) (is_at (key_cmp r) e.0) refl some

-- where there is none, every key of the entries is below
pub none_from : (entries : Entries) (k r : Key) → least_from entries k ≡ None → IsSome (value_under entries r) → is_le (key_cmp k r) ≡ false
none_from [] k r found some = absurd (cc)
none_from (e ∷ es) k r found some = none_at k r e es (none_from es k r) (is_le (key_cmp k e.0)) refl found some
