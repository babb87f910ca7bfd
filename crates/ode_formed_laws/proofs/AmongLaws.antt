-- Which keys are among those that are held.
use Rattle.std.proofs.Common.{◌≡◌, ◌==◌, ℕ, List, [], ◌∷◌, ◌++◌, Bool, true, false, cond, Some, None, refl, sym, ap, ◌∙◌, arith}
use Rattle.std.proofs.lemmas.Bool.{false≢true}
use Rattle.std.proofs.lemmas.Bool.Decides.{nat_tests}
use Rattle.std.specs.Prelude.{◌||◌}
use Rattle.std.specs.BTreeMap.{is_at}
use Rattle.std.specs.List.{AllByRecursion, find, fold}
use Rattle.std.specs.Ordering.{is_eq, match_ordering}
use Rattle.std.specs.declared.cmp.Ordering.{Ordering}
use Rattle.std.specs.declared.cmp.Ordering.TheVariants.{Less, Equal, Greater}
use Rattle.ode_keep.proofs.Keys.{same_key}
use Rattle.ode_objects.specs.Objects.{activation_keys, has_number, is_numbered, version_keys}
use Rattle.ode_objects.specs.declared.object.Active.{Active}
use Rattle.ode_objects.specs.declared.object.Version.{Version}
use Rattle.ode_overlay.specs.After.{is_among}
use Rattle.ode_settling_laws.specs.Formed.{IsOwn}
use Rattle.ode_value.specs.Changes.{with_key}
use Rattle.ode_value.specs.Keys.{activation_key, key_cmp, object_key, version_key}
use Rattle.ode_value.specs.declared.key.Key.{Key}

-- ---- one more key

same_at : (k l q : Key) → key_cmp k l ≡ Equal → is_at (key_cmp k) q ≡ is_at (key_cmp l) q
same_at k l q is = ap (λ m. is_at (key_cmp m) q) (sym (same_key k l (ap is_eq is)))

swap : (a b c : Bool) → (a || (b || c)) ≡ (b || (a || c))
swap true true c = refl
swap true false c = refl
swap false b c = refl

again : (a b c : Bool) → a ≡ b → (b || c) ≡ (a || (b || c))
again true true c e = refl
again false false c e = refl
again true false c e = absurd (cc)
again false true c e = absurd (cc)

among_one : (q k : Key) (ls : List Key) → is_among q (with_key ls k) ≡ (is_at (key_cmp k) q || is_among q ls)
among_one q k [] = refl
among_one q k (l ∷ ls) = by_order (key_cmp k l) refl (among_one q k ls) where
  by_order : (o : Ordering) → key_cmp k l ≡ o → is_among q (with_key ls k) ≡ (is_at (key_cmp k) q || is_among q ls)
      → is_among q (match_ordering o (k ∷ l ∷ ls) (l ∷ ls) (l ∷ with_key ls k)) ≡ (is_at (key_cmp k) q || (is_at (key_cmp l) q || is_among q ls))
  by_order Less is more = refl
  by_order Equal is more = again (is_at (key_cmp k) q) (is_at (key_cmp l) q) (is_among q ls) (same_at k l q is)
  by_order Greater is more = ap (λ b. is_at (key_cmp l) q || b) more ∙ swap (is_at (key_cmp l) q) (is_at (key_cmp k) q) (is_among q ls)

-- many more
pub among_all : (q : Key) (ks ls : List Key) → is_among q (fold with_key ls ks) ≡ (is_among q ks || is_among q ls)
among_all q [] ls = refl
among_all q (k ∷ ks) ls =
    among_all q ks (with_key ls k) ∙ ap (λ b. is_among q ks || b) (among_one q k ls) ∙ swap (is_among q ks) (is_at (key_cmp k) q) (is_among q ls)
    ∙ joined (is_at (key_cmp k) q) (is_among q ks) (is_among q ls) where
      joined : (a b c : Bool) → (a || (b || c)) ≡ ((a || b) || c)
      joined true b c = refl
      joined false b c = refl

all_one : (P : Key → Type 0) (k : Key) (ls : List Key) → P k → AllByRecursion P ls → AllByRecursion P (with_key ls k)
all_one P k [] here all = (here, tt)
all_one P k (l ∷ ls) here all = by_order (key_cmp k l) (all_one P k ls here all.1) where
  by_order : (o : Ordering) → AllByRecursion P (with_key ls k) → AllByRecursion P (match_ordering o (k ∷ l ∷ ls) (l ∷ ls) (l ∷ with_key ls k))
  by_order Less more = (here, all)
  by_order Equal more = all
  by_order Greater more = (all.0, more)

pub all_more : (P : Key → Type 0) (ks ls : List Key) → AllByRecursion P ks → AllByRecursion P ls → AllByRecursion P (fold with_key ls ks)
all_more P [] ls new all = all
all_more P (k ∷ ks) ls new all = all_more P ks (with_key ls k) new.1 (all_one P k ls new.0 all)

-- ---- keys of one object

abbrev pub IsOf : ℕ → Key → Type 0
IsOf id k = IsOwn k × (k.a ≡ id)

other_at : (k q : Key) (id : ℕ) → k.a ≡ id → (q.a == id) ≡ false → is_at (key_cmp k) q ≡ false
other_at k q id is out = grind (arith, nat_tests)

pub not_among : (id : ℕ) (ks : List Key) (q : Key) → AllByRecursion (IsOf id) ks → (q.a == id) ≡ false → is_among q ks ≡ false
not_among id [] q own out = refl
not_among id (k ∷ ks) q own out = ap (λ b. b || is_among q ks) (other_at k q id own.0.1 out) ∙ not_among id ks q own.1 out

-- ---- versions and activations

pub version_at : (id n m : ℕ) (b : Bool) → (m == n) ≡ b → is_at (key_cmp (version_key id m)) (version_key id n) ≡ b
version_at id n m true is = grind (arith, nat_tests)
version_at id n m false is = grind (arith, nat_tests)

pub active_at : (id n m : ℕ) (b : Bool) → (m == n) ≡ b → is_at (key_cmp (activation_key id m)) (activation_key id n) ≡ b
active_at id n m true is = grind (arith, nat_tests)
active_at id n m false is = grind (arith, nat_tests)

-- a number that isn't among the keys isn't found
pub none_active : (id n : ℕ) (acts : List Active) → is_among (activation_key id n) (activation_keys id acts) ≡ false → find (has_number n) acts ≡ None
none_active id n [] out = refl
none_active id n (a ∷ acts) out = by_test (a.number == n) refl (sym (ap (λ b. b || is_among (activation_key id n) (activation_keys id acts)) (active_at id n a.number (a.number == n) refl)) ∙ out) (none_active id n acts) where
  by_test : (b : Bool) → (a.number == n) ≡ b → ((a.number == n) || is_among (activation_key id n) (activation_keys id acts)) ≡ false
      → (is_among (activation_key id n) (activation_keys id acts) ≡ false → find (has_number n) acts ≡ None) → cond b (Some a) (find (has_number n) acts) ≡ None
  by_test true is none more = absurd (false≢true (sym none ∙ ap (λ t. t || is_among (activation_key id n) (activation_keys id acts)) is))
  by_test false is none more = more (sym (ap (λ t. t || is_among (activation_key id n) (activation_keys id acts)) is) ∙ none)

pub none_version : (id n : ℕ) (vs : List Version) → is_among (version_key id n) (version_keys id vs) ≡ false → find (is_numbered n) vs ≡ None
none_version id n [] out = refl
none_version id n (v ∷ vs) out = by_test (v.number == n) refl (sym (ap (λ b. b || is_among (version_key id n) (version_keys id vs)) (version_at id n v.number (v.number == n) refl)) ∙ out) (none_version id n vs) where
  by_test : (b : Bool) → (v.number == n) ≡ b → ((v.number == n) || is_among (version_key id n) (version_keys id vs)) ≡ false
      → (is_among (version_key id n) (version_keys id vs) ≡ false → find (is_numbered n) vs ≡ None) → cond b (Some v) (find (is_numbered n) vs) ≡ None
  by_test true is none more = absurd (false≢true (sym none ∙ ap (λ t. t || is_among (version_key id n) (version_keys id vs)) is))
  by_test false is none more = more (sym (ap (λ t. t || is_among (version_key id n) (version_keys id vs)) is) ∙ none)

-- keys of activations are no others
pub no_version : (id n : ℕ) (acts : List Active) → is_among (version_key id n) (activation_keys id acts) ≡ false
no_version id n [] = refl
no_version id n (a ∷ acts) = no_version id n acts

pub no_object : (id : ℕ) (acts : List Active) → is_among (object_key id) (activation_keys id acts) ≡ false
no_object id [] = refl
no_object id (a ∷ acts) = no_object id acts

-- either front or rest
pub among_append : (q : Key) (ks ls : List Key) → is_among q (ks ++ ls) ≡ (is_among q ks || is_among q ls)
among_append q [] ls = refl
among_append q (k ∷ ks) ls = ap (λ b. is_at (key_cmp k) q || b) (among_append q ks ls) ∙ joined (is_at (key_cmp k) q) (is_among q ks) (is_among q ls) where
  joined : (a b c : Bool) → (a || (b || c)) ≡ ((a || b) || c)
  joined true b c = refl
  joined false b c = refl

pub first_out : (a b : Bool) → (a || b) ≡ false → a ≡ false
first_out true b out = absurd (cc)
first_out false b out = refl

pub second_out : (a b : Bool) → (a || b) ≡ false → b ≡ false
second_out true b out = absurd (cc)
second_out false b out = out
