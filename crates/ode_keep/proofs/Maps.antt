-- Entries under an order: what an insertion, a filter or a removal leaves at each key, and that the keys still rise.
use Rattle.std.proofs.Common.{◌≡◌, List, [], ◌∷◌, Bool, true, false, cond, Some, None, refl, sym, ap, ◌∙◌}
use Rattle.std.specs.Prelude.{not}
use Rattle.std.specs.Ordering.{is_eq, eq_by_cmp, match_ordering, ordering_reverse}
use Rattle.std.specs.declared.cmp.Ordering.{Ordering}
use Rattle.std.specs.declared.cmp.Ordering.TheVariants.{Less, Equal, Greater}
use Rattle.std.specs.Cmp.{Equal-is, IsTotalOrder}
use Rattle.std.specs.BTreeMap.{is_at, insert_entry}
use Rattle.std.specs.Map.{lookup, keys_of, remove_entry}
use Rattle.std.specs.List.{AllByRecursion, IsDistinct, filter}
use Rattle.std.specs.List.Sorted.{IsStrictlySortedBy}
use Rattle.std.proofs.lemmas.Cmp.{eq_by_cmp_equiv}
use Rattle.std.proofs.lemmas.Map.{NonePasses}
use Rattle.std.proofs.lemmas.Map.Entries.{none_past_head}
use Rattle.std.proofs.lemmas.Map.Keys.{IsDistinct-tail}

same_test : (a b : Bool) → a ≡ b → {A : Type 0} (x y : A) → cond a x y ≡ cond b x y
same_test a b e x y = ap (λ t. cond t x y) e

-- a key that is there takes the value
over_first : {A : Type 0} (a b : Bool) → a ≡ b → (x y z : A) → cond a x z ≡ cond b x (cond a y z)
over_first true true e x y z = refl
over_first false false e x y z = refl
over_first true false e x y z = absurd (cc)
over_first false true e x y z = absurd (cc)

-- two tests of which at most one holds go in either order
swapped : {A : Type 0} (a b : Bool) → (a ≡ true → b ≡ true → ⊥) → (x y z : A) → cond a x (cond b y z) ≡ cond b y (cond a x z)
swapped true true h x y z = absurd (h refl refl)
swapped true false h x y z = refl
swapped false b h x y z = refl

module _ {K : Type 0} {R : K → K → Ordering} (o : IsTotalOrder R) where
  pub back : (x y : K) → is_eq (R x y) ≡ is_eq (R y x)
  back x y = (eq_by_cmp_equiv o).symm x y

  moved : (k l q : K) → R k l ≡ Equal → is_eq (R q l) ≡ is_eq (R k q)
  moved k l q e = back q l ∙ sym (ap is_eq (o.congr k l q e))

  apart : (k l q : K) → R k l ≡ Greater → is_eq (R q l) ≡ true → is_eq (R k q) ≡ true → ⊥
  apart k l q e at_l at_k =
      let here : R q l ≡ Equal = (Equal-is (R q l)).0 at_l in
      let there : R k q ≡ Equal = (Equal-is (R k q)).0 at_k in
      let same : R k l ≡ R q l = o.congr k q l there in
      absurd (cc)

  all_above : (k l : K) → R k l ≡ Less → (ks : List K) → AllByRecursion (λ y. R l y ≡ Less) ks → AllByRecursion (λ y. R k y ≡ Less) ks
  all_above k l h [] a = tt
  all_above k l h (y ∷ ys) a = (o.trans k l y h a.0, all_above k l h ys a.1)

module _ {K X : Type 0} {R : K → K → Ordering} (o : IsTotalOrder R) where
  put_at : (k : K) (v : X) (q : K) (e : K × X) (es rest : List (K × X)) → lookup (is_at (R q)) rest ≡ cond (is_at (R k) q) (Some v) (lookup (is_at (R q)) es)
      → (r : Ordering) → R k e.0 ≡ r → lookup (is_at (R q)) (match_ordering r ((k, v) ∷ e ∷ es) ((e.0, v) ∷ es) (e ∷ rest)) ≡ cond (is_at (R k) q) (Some v) (cond (is_at (R q) e.0) (Some e.1) (lookup (is_at (R q)) es))
  put_at k v q e es rest more Less is = same_test (is_eq (R q k)) (is_eq (R k q)) (back o q k) (Some v) (lookup (is_at (R q)) (e ∷ es))
  put_at k v q e es rest more Equal is = over_first (is_eq (R q e.0)) (is_eq (R k q)) (moved o k e.0 q is) (Some v) (Some e.1) (lookup (is_at (R q)) es)
  put_at k v q e es rest more Greater is =
      ap (λ l. cond (is_at (R q) e.0) (Some e.1) l) more
      ∙ swapped (is_at (R q) e.0) (is_at (R k) q) (apart o k e.0 q is) (Some e.1) (Some v) (lookup (is_at (R q)) es)

  -- what an insertion leaves at each key; the entries need no order
  pub lookup_put : (k : K) (v : X) (q : K) (es : List (K × X)) → lookup (is_at (R q)) (insert_entry R es k v) ≡ cond (is_at (R k) q) (Some v) (lookup (is_at (R q)) es)
  lookup_put k v q [] = same_test (is_eq (R q k)) (is_eq (R k q)) (back o q k) (Some v) None
  lookup_put k v q (e ∷ es) = put_at k v q e es (insert_entry R es k v) (lookup_put k v q es) (R k e.0) refl

  all_put_at : (P : K → Type 0) (k : K) (v : X) (e : K × X) (es rest : List (K × X)) → P k → AllByRecursion P (keys_of (e ∷ es)) → AllByRecursion P (keys_of rest)
      → (r : Ordering) → AllByRecursion P (keys_of (match_ordering r ((k, v) ∷ e ∷ es) ((e.0, v) ∷ es) (e ∷ rest)))
  all_put_at P k v e es rest p a more Less = (p, a)
  all_put_at P k v e es rest p a more Equal = a
  all_put_at P k v e es rest p a more Greater = (a.0, more)

  all_put : (P : K → Type 0) (k : K) (v : X) (es : List (K × X)) → P k → AllByRecursion P (keys_of es) → AllByRecursion P (keys_of (insert_entry R es k v))
  all_put P k v [] p a = (p, tt)
  all_put P k v (e ∷ es) p a = all_put_at P k v e es (insert_entry R es k v) p a (all_put P k v es p a.1) (R k e.0)

  rising_put_at : (k : K) (v : X) (e : K × X) (es rest : List (K × X)) → IsStrictlySortedBy R (keys_of (e ∷ es)) → IsStrictlySortedBy R (keys_of rest) → (R e.0 k ≡ Less → AllByRecursion (λ y. R e.0 y ≡ Less) (keys_of rest))
      → (r : Ordering) → R k e.0 ≡ r → IsStrictlySortedBy R (keys_of (match_ordering r ((k, v) ∷ e ∷ es) ((e.0, v) ∷ es) (e ∷ rest)))
  unfolding IsStrictlySortedBy
  rising_put_at k v e es rest s more above Less is = ((is, all_above o k e.0 is (keys_of es) s.0), s)
  rising_put_at k v e es rest s more above Equal is = s
  rising_put_at k v e es rest s more above Greater is = (above (o.antisymm e.0 k ∙ ap ordering_reverse is), more)

  -- the keys still rise
  pub rising_put : (k : K) (v : X) (es : List (K × X)) → IsStrictlySortedBy R (keys_of es) → IsStrictlySortedBy R (keys_of (insert_entry R es k v))
  unfolding IsStrictlySortedBy
  rising_put k v [] s = (tt, tt)
  rising_put k v (e ∷ es) s = rising_put_at k v e es (insert_entry R es k v) s (rising_put k v es s.1) (λ h. all_put (λ y. R e.0 y ≡ Less) k v es h s.0) (R k e.0) refl

-- Some of the entries, by a test.
module _ {K X : Type 0} where
  all_some_at : (P : K → Type 0) (e : K × X) (rest : List (K × X)) (b : Bool) → P e.0 → AllByRecursion P (keys_of rest) → AllByRecursion P (keys_of (cond b (e ∷ rest) rest))
  all_some_at P e rest true p a = (p, a)
  all_some_at P e rest false p a = a

  all_some : (P : K → Type 0) (test : K × X → Bool) (es : List (K × X)) → AllByRecursion P (keys_of es) → AllByRecursion P (keys_of (filter test es))
  all_some P test [] a = tt
  all_some P test (e ∷ es) a = all_some_at P e (filter test es) (test e) a.0 (all_some P test es a.1)

  rising_some_at : (R : K → K → Ordering) (e : K × X) (rest : List (K × X)) (b : Bool) → AllByRecursion (λ y. R e.0 y ≡ Less) (keys_of rest) → IsStrictlySortedBy R (keys_of rest) → IsStrictlySortedBy R (keys_of (cond b (e ∷ rest) rest))
  unfolding IsStrictlySortedBy
  rising_some_at R e rest true a s = (a, s)
  rising_some_at R e rest false a s = s

  pub rising_some : (R : K → K → Ordering) (test : K × X → Bool) (es : List (K × X)) → IsStrictlySortedBy R (keys_of es) → IsStrictlySortedBy R (keys_of (filter test es))
  unfolding IsStrictlySortedBy
  rising_some R test [] s = tt
  rising_some R test (e ∷ es) s = rising_some_at R e (filter test es) (test e) (all_some (λ y. R e.0 y ≡ Less) test es s.0) (rising_some R test es s.1)

  none_gone : (test : K → Bool) (es : List (K × X)) → NonePasses test es → filter (λ e. not (test e.0)) es ≡ es
  none_gone test [] none = refl
  none_gone test (e ∷ es) none = ap (λ b. cond (not b) (e ∷ filter (λ e. not (test e.0)) es) (filter (λ e. not (test e.0)) es)) none.0 ∙ ap (λ l. e ∷ l) (none_gone test es none.1)

  first_gone_at : (test : K → Bool) (e : K × X) (es kept : List (K × X)) (b : Bool) → (b ≡ true → filter (λ e. not (test e.0)) es ≡ es) → filter (λ e. not (test e.0)) es ≡ kept
      → cond (not b) (e ∷ filter (λ e. not (test e.0)) es) (filter (λ e. not (test e.0)) es) ≡ cond b es (e ∷ kept)
  first_gone_at test e es kept true none more = none refl
  first_gone_at test e es kept false none more = ap (λ l. e ∷ l) more

  -- of distinct keys at most the first that passes is gone
  pub one_gone : {R : K → K → Ordering} → IsTotalOrder R → (k : K) (es : List (K × X)) → IsDistinct (eq_by_cmp R) (keys_of es) → filter (λ e. not (is_at (R k) e.0)) es ≡ remove_entry (is_at (R k)) es
  one_gone o k [] d = refl
  one_gone {R = R} o k (e ∷ es) d =
      first_gone_at (is_at (R k)) e es (remove_entry (is_at (R k)) es) (is_at (R k) e.0)
      (λ h. none_gone (is_at (R k)) es (none_past_head (eq_by_cmp_equiv o) k e es d h))
      (one_gone o k es (IsDistinct-tail (eq_by_cmp R) e.0 (keys_of es) d))
