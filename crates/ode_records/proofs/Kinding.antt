-- Records kind by kind are cut at a key's kind.
use Rattle.std.proofs.Common.{◌≡◌, ◌<◌, ◌≤◌, ◌+◌, ℕ, suc, zero, List, [], ◌∷◌, ◌++◌, length, take, drop, get_or, Option, None, refl, sym, ap, subst, ◌∙◌, arith, append_assoc, append-nil, drop-cons}
use Rattle.std.proofs.Math.ListN.{set}
use Rattle.std.specs.Cmp.{nat_cmp_is}
use Rattle.std.specs.List.{AllByRecursion}
use Rattle.std.specs.List.Sorted.{IsStrictlySortedBy}
use Rattle.std.specs.Map.{keys_of}
use Rattle.std.specs.Ordering.{nat_cmp, ordering_then}
use Rattle.std.specs.Prelude.{Result, Ok, Err, OnOk, OnErr}
use Rattle.std.specs.declared.alloc.AllocError.{AllocError}
use Rattle.std.specs.declared.cmp.Ordering.TheVariants.{Less}
use Rattle.ode_value.specs.declared.key.Key.{Key}
use Rattle.ode_value.specs.Keys.{key_cmp}
use Rattle.ode_keep.specs.Entries.{Entries, HasRisingKeys, changed, value_under}
use Rattle.ode_keep.proofs.Applying.{changed_rising}
use Rattle.ode_chunks.specs.Cuts.{AreAbove, AreBelow, IsCut}
use Rattle.ode_records.specs.Kinds.{AreKinds, AreOfKind, all_of}
use Rattle.ode_chunks.proofs.Cutting.{all_less, changed_between, changed_keys, keys_joined, value_between}

-- a key of a lower kind is below one of a higher kind
kind_less : (x y : Key) → x.kind < y.kind → key_cmp x y ≡ Less
kind_less x y less = ap (λ r. ordering_then r (ordering_then (nat_cmp x.a y.a) (nat_cmp x.b y.b))) (sym (nat_cmp_is x.kind y.kind Less less))

-- those of a lower kind are below a key, and those of higher kinds above it
pub lower : (k : Key) (n : ℕ) (es : Entries) → n < k.kind → AreOfKind n es → AreBelow k (keys_of es)
lower k n es less are = all_less (λ (y : Key). y.kind ≡ n) (λ y. key_cmp y k ≡ Less) (λ y is. kind_less y k (omega arith)) (keys_of es) are.1

higher : (k : Key) (n : ℕ) (kinds : List Entries) → k.kind < n → AreKinds n kinds → AreAbove k (keys_of (all_of kinds))
higher k n [] less are = tt
higher k n (es ∷ kinds) less are =
    keys_joined (λ y. key_cmp k y ≡ Less) es (all_of kinds)
    (all_less (λ (y : Key). y.kind ≡ n) (λ y. key_cmp k y ≡ Less) (λ y is. kind_less k y (omega arith)) (keys_of es) are.0.1)
    (higher k (suc n) kinds (omega arith) are.1)

-- where there are none of a key's kind or of a higher one, all are below it
pub all_lower : (k : Key) (n : ℕ) (kinds : List Entries) → n + length kinds ≤ k.kind → AreKinds n kinds → AreBelow k (keys_of (all_of kinds))
all_lower k n [] less are = tt
all_lower k n (es ∷ kinds) less are =
    keys_joined (λ y. key_cmp y k ≡ Less) es (all_of kinds) (lower k n es (omega arith) are.0) (all_lower k (suc n) kinds (omega arith) are.1)

-- they are cut at the records of the key's kind
pub cut_at : (k : Key) (n i : ℕ) (kinds : List Entries) (d : Entries) → n + i ≡ k.kind → i < length kinds → AreKinds n kinds
    → IsCut (all_of kinds) k (all_of (take i kinds)) (get_or kinds i d) (all_of (drop (suc i) kinds))
cut_at k n i [] d at less are = absurd (omega (arith, less))
cut_at k n zero (es ∷ kinds) d at less are = record {
  whole = refl;
  below = tt;
  above = higher k (suc n) kinds (omega (arith, at)) are.1;
}
cut_at k n (suc i) (es ∷ kinds) d at less are =
    let rest = cut_at k (suc n) i kinds d (omega (arith, at)) (omega (arith, less)) are.1 in record {
      whole = ap (λ (l : Entries). es ++ l) rest.whole ∙ sym (append_assoc es (all_of (take i kinds)) (get_or kinds i d ++ all_of (drop (suc i) kinds)));
      below = keys_joined (λ y. key_cmp y k ≡ Less) es (all_of (take i kinds)) (lower k n es (omega (arith, at)) are.0) rest.below;
      above = rest.above;
    }

-- the records of a kind, and those of the kinds behind it
pub split_at : (kinds : List Entries) (i : ℕ) (es : Entries) → es ≡ get_or kinds i es → i < length kinds → drop i kinds ≡ es ∷ drop (suc i) kinds
split_at kinds i es here less = drop-cons kinds i es less ∙ ap (λ (l : Entries). l ∷ drop (suc i) kinds) (sym here)

-- other records of a kind stand between the same ones
all_set : (i : ℕ) (kinds : List Entries) (es : Entries) → i < length kinds → all_of (set kinds i es) ≡ all_of (take i kinds) ++ (es ++ all_of (drop (suc i) kinds))
all_set i [] es less = absurd (omega (arith, less))
all_set zero (d ∷ kinds) es less = refl
all_set (suc i) (d ∷ kinds) es less =
    ap (λ (l : Entries). d ++ l) (all_set i kinds es (omega (arith, less)))
    ∙ sym (append_assoc d (all_of (take i kinds)) (es ++ all_of (drop (suc i) kinds)))

kinds_set : (n i : ℕ) (kinds : List Entries) (es : Entries) → AreOfKind (n + i) es → AreKinds n kinds → AreKinds n (set kinds i es)
kinds_set n i [] es of are = tt
kinds_set n zero (d ∷ kinds) es of are = (subst (λ (m : ℕ). AreOfKind m es) (omega arith) of, are.1)
kinds_set n (suc i) (d ∷ kinds) es of are = (are.0, kinds_set (suc n) i kinds es (subst (λ (m : ℕ). AreOfKind m es) (omega arith) of) are.1)

of_kind : (n i : ℕ) (kinds : List Entries) (d : Entries) → i < length kinds → AreKinds n kinds → AreOfKind (n + i) (get_or kinds i d)
of_kind n i [] d less are = absurd (omega (arith, less))
of_kind n zero (es ∷ kinds) d less are = subst (λ (m : ℕ). AreOfKind m es) (omega arith) are.0
of_kind n (suc i) (es ∷ kinds) d less are =
    subst (λ (m : ℕ). AreOfKind m (get_or kinds i d)) (omega arith) (of_kind (suc n) i kinds d (omega (arith, less)) are.1)

-- a change leaves records of its key's kind of that kind
of_changed : (k : Key) (es : Entries) (w : Option (List ℕ)) → AreOfKind k.kind es → AreOfKind k.kind (changed es k w)
of_changed k es w of = (changed_rising es k w of.0, changed_keys (λ (y : Key). y.kind ≡ k.kind) es k w of.1 refl)

on_ok : {P Q : Type 0} (r : Result (Option (List ℕ)) AllocError) → (P → Q) → OnOk r P → OnOk r Q
on_ok (Ok v) so p = so p
on_ok (Err e) so p = tt

on_err : {P Q : Type 0} (r : Result (Option (List ℕ)) AllocError) → (P → Q) → OnErr r P → OnErr r Q
on_err (Ok v) so p = tt
on_err (Err e) so p = so p

pub on_any_err : {P : Type 0} (r : Result (Option (List ℕ)) AllocError) → P → OnErr r P
on_any_err (Ok v) p = tt
on_any_err (Err e) p = p

in_both : {P Q X : Type 0} (r : Result (Option (List ℕ)) AllocError) → (P → X) → (Q → X) → OnOk r P → OnErr r Q → X
in_both (Ok v) so other p q = so p
in_both (Err e) so other p q = other q

-- a change among the records of its key's kind is one among all
module _ (k : Key) (kinds : List Entries) (es new : Entries) (w : Option (List ℕ)) (less : k.kind < length kinds) (are : AreKinds 0 kinds) (here : es ≡ get_or kinds k.kind es) where
  cut : IsCut (all_of kinds) k (all_of (take k.kind kinds)) es (all_of (drop (suc k.kind) kinds))
  cut = subst (λ (l : Entries). IsCut (all_of kinds) k (all_of (take k.kind kinds)) l (all_of (drop (suc k.kind) kinds))) (sym here)
      (cut_at k 0 k.kind kinds es (omega arith) less are)

  of : AreOfKind k.kind es
  of = subst (λ (l : Entries). AreOfKind k.kind l) (sym here) (subst (λ (m : ℕ). AreOfKind m (get_or kinds k.kind es)) (omega arith) (of_kind 0 k.kind kinds es less are))

  pub all_changed : new ≡ changed es k w → all_of (set kinds k.kind new) ≡ changed (all_of kinds) k w
  all_changed is =
      all_set k.kind kinds new less
      ∙ ap (λ (l : Entries). all_of (take k.kind kinds) ++ (l ++ all_of (drop (suc k.kind) kinds))) is
      ∙ sym (changed_between (all_of kinds) k (all_of (take k.kind kinds)) es (all_of (drop (suc k.kind) kinds)) w cut)

  none_changed : new ≡ es → all_of (set kinds k.kind new) ≡ all_of kinds
  none_changed is =
      all_set k.kind kinds new less
      ∙ ap (λ (l : Entries). all_of (take k.kind kinds) ++ (l ++ all_of (drop (suc k.kind) kinds))) is
      ∙ sym cut.whole

  of_set : AreOfKind k.kind new → AreKinds 0 (set kinds k.kind new)
  of_set is = kinds_set 0 k.kind kinds new (subst (λ (m : ℕ). AreOfKind m new) (omega arith) is) are

  -- the records of its kind are still of that kind
  pub kinds_changed : new ≡ changed es k w → AreKinds 0 (set kinds k.kind new)
  kinds_changed is = of_set (subst (λ (l : Entries). AreOfKind k.kind l) (sym is) (of_changed k es w of))

  kinds_same : new ≡ es → AreKinds 0 (set kinds k.kind new)
  kinds_same is = of_set (subst (λ (l : Entries). AreOfKind k.kind l) (sym is) of)

  -- all this, where a change may fail
  module _ (r : Result (Option (List ℕ)) AllocError) (put : OnOk r (new ≡ changed es k w)) (same : OnErr r (new ≡ es)) where
    pub all_put : OnOk r (all_of (set kinds k.kind new) ≡ changed (all_of kinds) k w)
    all_put = on_ok r all_changed put

    pub all_same : OnErr r (all_of (set kinds k.kind new) ≡ all_of kinds)
    all_same = on_err r none_changed same

    pub kinds_put : AreKinds 0 (set kinds k.kind new)
    kinds_put = in_both r kinds_changed kinds_same put same

  -- and the value under the key stands there
  pub value_there : value_under (all_of kinds) k ≡ value_under es k
  value_there = value_between (all_of kinds) k (all_of (take k.kind kinds)) es (all_of (drop (suc k.kind) kinds)) cut

-- ---- no records of a key's kind

module _ (k : Key) (kinds : List Entries) (less : length kinds ≤ k.kind) (are : AreKinds 0 kinds) where
  end : IsCut (all_of kinds) k (all_of kinds) [] []
  end = record {
    whole = sym (append-nil (all_of kinds));
    below = all_lower k 0 kinds (omega (arith, less)) are;
    above = tt;
  }

  pub none_there : value_under (all_of kinds) k ≡ None
  none_there = value_between (all_of kinds) k (all_of kinds) [] [] end

  pub none_taken : changed (all_of kinds) k None ≡ all_of kinds
  none_taken = changed_between (all_of kinds) k (all_of kinds) [] [] None end ∙ append-nil (all_of kinds)

-- ---- no records of one kind more

none_more : (kinds : List Entries) → all_of (kinds ++ [] ∷ []) ≡ all_of kinds
none_more [] = refl
none_more (es ∷ kinds) = ap (λ (l : Entries). es ++ l) (none_more kinds)

none_of : (n : ℕ) (kinds : List Entries) → AreKinds n kinds → AreKinds n (kinds ++ [] ∷ [])
unfolding IsStrictlySortedBy
none_of n [] are = ((tt, tt), tt)
none_of n (es ∷ kinds) are = (are.0, none_of (suc n) kinds are.1)

module _ (kinds more : List Entries) (new : Entries) (is : more ≡ kinds ++ new ∷ []) (none : new ≡ []) where
  one_kind_more : more ≡ kinds ++ [] ∷ []
  one_kind_more = is ∙ ap (λ (es : Entries). kinds ++ es ∷ []) none

  pub all_more : all_of more ≡ all_of kinds
  all_more = ap all_of one_kind_more ∙ none_more kinds

  pub kinds_more : AreKinds 0 kinds → AreKinds 0 more
  kinds_more are = subst (λ (l : List Entries). AreKinds 0 l) (sym one_kind_more) (none_of 0 kinds are)

-- ---- that the keys rise

rising_joined : (es rest : Entries) → HasRisingKeys es → HasRisingKeys rest → AllByRecursion (λ y. AreAbove y (keys_of rest)) (keys_of es) → HasRisingKeys (es ++ rest)
unfolding IsStrictlySortedBy
rising_joined [] rest rising behind above = behind
rising_joined (e ∷ es) rest rising behind above = (keys_joined (λ y. key_cmp e.0 y ≡ Less) es rest rising.0 above.0, rising_joined es rest rising.1 behind above.1)

kinds_rising : (n : ℕ) (kinds : List Entries) → AreKinds n kinds → HasRisingKeys (all_of kinds)
unfolding IsStrictlySortedBy
kinds_rising n [] are = tt
kinds_rising n (es ∷ kinds) are =
    rising_joined es (all_of kinds) are.0.0 (kinds_rising (suc n) kinds are.1)
    (all_less (λ (y : Key). y.kind ≡ n) (λ y. AreAbove y (keys_of (all_of kinds))) (λ y is. higher y (suc n) kinds (omega arith) are.1) (keys_of es) are.0.1)

-- the keys of all kinds rise
pub all_rising : (kinds : List Entries) → AreKinds 0 kinds → HasRisingKeys (all_of kinds)
all_rising kinds are = kinds_rising 0 kinds are
