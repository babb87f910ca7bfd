-- The first key of a block, by the least key at or above the one where the block begins.
use Rattle.std.proofs.Common.{◌≡◌, ℕ, List, [], ◌∷◌, Bool, true, false, cond, Option, Some, None, refl, sym, ap, ◌∙◌, arith}
use Rattle.std.specs.Prelude.{◌==◌}
use Rattle.std.specs.List.{AllByRecursion, find}
use Rattle.std.specs.List.Sorted.{IsStrictlySortedBy}
use Rattle.std.specs.Map.{keys_of}
use Rattle.std.specs.Option.{IfSome, option_map}
use Rattle.std.specs.Ordering.{is_le}
use Rattle.std.specs.declared.cmp.Ordering.TheVariants.{Less}
use Rattle.std.proofs.lemmas.Bool.Decides.{nat_tests}
use Rattle.ode_keep.specs.Entries.{Entries, HasRisingKeys, least_from}
use Rattle.ode_value.specs.Keys.{entry_key, entry_kind, key_cmp, object_key, object_kind}
use Rattle.ode_value.specs.declared.key.Key.{Key}
use Rattle.ode_heap.specs.Answers.{There}
use Rattle.ode_heap.specs.Looking.{entry_key_from, is_entry_from, is_object_from, object_from, object_number, of_entry}

pub stripped : {X : Type 0} {o p : X} → There o ≡ There p → o ≡ p
stripped e = cc

module _ (start : Key) (is_in : Key → Bool) (from : (k : Key) → is_in k ≡ true → is_le (key_cmp start k) ≡ true) (ends : (k l : Key) → is_le (key_cmp start k) ≡ true → is_in k ≡ false → key_cmp k l ≡ Less → is_in l ≡ false) where
  -- a key, where it is of the block
  abbrev pub within : Option Key → Option Key
  within None = None
  within (Some k) = cond (is_in k) (Some k) None

  none_above : (k : Key) (ks : List Key) → is_le (key_cmp start k) ≡ true → is_in k ≡ false → AllByRecursion (λ l. key_cmp k l ≡ Less) ks → find is_in ks ≡ None
  none_above k [] le out below = refl
  none_above k (l ∷ ls) le out below = ap (λ b. cond b (Some l) (find is_in ls)) (ends k l le out below.0) ∙ none_above k ls le out below.1

  step : (k : Key) (ks : List Key) → AllByRecursion (λ l. key_cmp k l ≡ Less) ks → find is_in ks ≡ within (find (λ q. is_le (key_cmp start q)) ks)
      → (b : Bool) → is_le (key_cmp start k) ≡ b → (c : Bool) → is_in k ≡ c → cond c (Some k) (find is_in ks) ≡ within (cond b (Some k) (find (λ q. is_le (key_cmp start q)) ks))
  step k ks below more true le true here = sym (ap (λ t. cond t (Some k) None) here)
  step k ks below more true le false here = none_above k ks le here below ∙ sym (ap (λ t. cond t (Some k) None) here)
  step k ks below more false le true here = let low : is_le (key_cmp start k) ≡ true = from k here in absurd (cc)
  step k ks below more false le false here = more

  pub first_is : (ks : List Key) → IsStrictlySortedBy key_cmp ks → find is_in ks ≡ within (find (λ q. is_le (key_cmp start q)) ks)
  unfolding IsStrictlySortedBy
  first_is [] sorted = refl
  first_is (k ∷ ks) sorted = step k ks sorted.0 (first_is ks sorted.1) (is_le (key_cmp start k)) refl (is_in k) refl

-- ---- objects

objects_begin : (id : ℕ) (k : Key) → is_object_from id k ≡ true → is_le (key_cmp (object_key id) k) ≡ true
objects_begin id k here = grind (arith, nat_tests)

objects_end : (id : ℕ) (k l : Key) → is_le (key_cmp (object_key id) k) ≡ true → is_object_from id k ≡ false → key_cmp k l ≡ Less → is_object_from id l ≡ false
objects_end id k l le out less = grind (arith, nat_tests)

abbrev number : Key → ℕ
number k = k.a

-- the key found is of the block where it is an object's, since it is at or above
by_kind : (id : ℕ) (k : Key) → is_le (key_cmp (object_key id) k) ≡ true → (b : Bool) → (k.kind == object_kind) ≡ b → is_object_from id k ≡ b
by_kind id k le true kind = grind (arith, nat_tests)
by_kind id k le false kind = grind (arith, nat_tests)

numbers_agree : (id : ℕ) (found : Option Key) → IfSome found (λ q. is_le (key_cmp (object_key id) q) ≡ true)
    → option_map number (within (object_key id) (is_object_from id) (objects_begin id) (objects_end id) found) ≡ object_number found
numbers_agree id None above = refl
numbers_agree id (Some k) above = ap (λ b. option_map number (cond b (Some k) None)) (by_kind id k above (k.kind == object_kind) refl) ∙ chosen (k.kind == object_kind)
  where
    chosen : (b : Bool) → option_map number (cond b (Some k) None) ≡ cond b (Some k.a) None
    chosen true = refl
    chosen false = refl

pub object_is : (entries : Entries) (id : ℕ) (found : Option Key) → HasRisingKeys entries → found ≡ least_from entries (object_key id) → IfSome found (λ q. is_le (key_cmp (object_key id) q) ≡ true)
    → object_from entries id ≡ object_number found
unfolding object_from
object_is entries id found rising least above =
    ap (λ (o : Option Key). option_map number o) (first_is (object_key id) (is_object_from id) (objects_begin id) (objects_end id) (keys_of entries) rising)
    ∙ ap (λ (o : Option Key). option_map number (within (object_key id) (is_object_from id) (objects_begin id) (objects_end id) o)) (sym least)
    ∙ numbers_agree id found above

-- ---- entries

entries_begin : (number : ℕ) (k : Key) → is_entry_from number k ≡ true → is_le (key_cmp (entry_key number) k) ≡ true
entries_begin n k here = grind (arith, nat_tests)

entries_end : (number : ℕ) (k l : Key) → is_le (key_cmp (entry_key number) k) ≡ true → is_entry_from number k ≡ false → key_cmp k l ≡ Less → is_entry_from number l ≡ false
entries_end n k l le out less = grind (arith, nat_tests)

entry_kind_is : (n : ℕ) (k : Key) → is_le (key_cmp (entry_key n) k) ≡ true → (b : Bool) → (k.kind == entry_kind) ≡ b → is_entry_from n k ≡ b
entry_kind_is n k le true kind = grind (arith, nat_tests)
entry_kind_is n k le false kind = grind (arith, nat_tests)

keys_agree : (n : ℕ) (found : Option Key) → IfSome found (λ q. is_le (key_cmp (entry_key n) q) ≡ true)
    → within (entry_key n) (is_entry_from n) (entries_begin n) (entries_end n) found ≡ of_entry found
keys_agree n None above = refl
keys_agree n (Some k) above = ap (λ b. cond b (Some k) None) (entry_kind_is n k above (k.kind == entry_kind) refl)

pub entry_key_is : (entries : Entries) (n : ℕ) (found : Option Key) → HasRisingKeys entries → found ≡ least_from entries (entry_key n) → IfSome found (λ q. is_le (key_cmp (entry_key n) q) ≡ true)
    → entry_key_from entries n ≡ of_entry found
unfolding entry_key_from
entry_key_is entries n found rising least above =
    first_is (entry_key n) (is_entry_from n) (entries_begin n) (entries_end n) (keys_of entries) rising
    ∙ ap (λ (o : Option Key). within (entry_key n) (is_entry_from n) (entries_begin n) (entries_end n) o) (sym least)
    ∙ keys_agree n found above
