-- Where a number stands among numbers that rise, or would stand, as a search finds it; and what is known of it there.
use Rattle.std.proofs.Common.{◌≡◌, ℕ, zero, suc, ◌-◌, ◌<◌, ◌≤◌, List, [], ◌∷◌, length, get_or, set, slice_get, cond, Some, None, Result, Ok, Err, IfOk, IfErr, refl, sym, ap, subst, ◌∙◌, arith}
use Rattle.std.specs.BTreeMap.{insert_entry, is_at}
use Rattle.std.specs.List.{AllByRecursion, insert}
use Rattle.std.specs.List.Sorted.{IsBinarySearchResult, IsPartitionPoint, IsSearchInRange, IsStrictlySortedBy}
use Rattle.std.specs.Map.{keys_of}
use Rattle.std.specs.Ordering.{is_eq, match_ordering, nat_cmp, ordering_index}
use Rattle.std.specs.declared.cmp.Ordering.{Ordering}
use Rattle.std.specs.declared.cmp.Ordering.TheVariants.{Less, Equal, Greater}
use Rattle.std.proofs.lemmas.Bool.Decides.{nat_tests}
use Rattle.std.specs.Cmp.{nat_cmp_is}
use Rattle.std.proofs.lemmas.Cmp.{nat_cmp_total, ranked}
use Rattle.std.proofs.lemmas.Map.{lookup-none}
use Rattle.std.proofs.lemmas.Map.Entries.{none_below_head}
use Rattle.ode_opening_objects.specs.Numbers.{IsAt, IsGap, at}

-- ---- two numbers

index_rises : (a b id : ℕ) → a ≤ b → ordering_index (nat_cmp a id) ≤ ordering_index (nat_cmp b id)
index_rises a b id le = grind (arith, nat_tests)

module _ {X : Type 0} (id : ℕ) where
  -- ---- places are within

  pub place_inside : (xs : List (ℕ × X)) (i : ℕ) → IsAt id xs i → i < length xs
  place_inside [] i here = absurd here
  place_inside (x ∷ xs) zero here = omega arith
  place_inside (x ∷ xs) (suc i) here = omega (arith, place_inside xs i here.1)

  pub gap_inside : (xs : List (ℕ × X)) (i : ℕ) → IsGap id xs i → i ≤ length xs
  gap_inside [] zero gap = omega arith
  gap_inside [] (suc i) gap = absurd gap
  gap_inside (x ∷ xs) zero gap = omega arith
  gap_inside (x ∷ xs) (suc i) gap = omega (arith, gap_inside xs i gap.1)

  -- ---- what is known at a place

  -- behind a lower one it is what is known behind that
  at_behind : (x : ℕ × X) (xs : List (ℕ × X)) → x.0 < id → at (x ∷ xs) id ≡ at xs id
  at_behind x xs below = sym (ap (λ o. cond (is_eq o) (Some x.1) (at xs id)) (nat_cmp_is id x.0 Greater below))

  -- it is what stands there
  pub at_place : (xs : List (ℕ × X)) (i : ℕ) (d : ℕ × X) → IsAt id xs i → at xs id ≡ Some (get_or xs i d).1
  at_place [] i d here = absurd here
  at_place (x ∷ xs) zero d here = sym (ap (λ o. cond (is_eq o) (Some x.1) (at xs id)) (nat_cmp_is id x.0 Equal (sym here)))
  at_place (x ∷ xs) (suc i) d here = at_behind x xs here.0 ∙ at_place xs i d here.1

  -- nothing is at a gap
  pub at_gap : (xs : List (ℕ × X)) (i : ℕ) → IsStrictlySortedBy nat_cmp (keys_of xs) → IsGap id xs i → at xs id ≡ None
  unfolding IsStrictlySortedBy
  at_gap [] i rising gap = refl
  at_gap (x ∷ xs) zero rising gap = lookup-none (is_at (nat_cmp id)) (x ∷ xs) (none_below_head nat_cmp_total id x xs rising (sym (nat_cmp_is id x.0 Less gap)))
  at_gap (x ∷ xs) (suc i) rising gap = at_behind x xs gap.0 ∙ at_gap xs i rising.1 gap.1

  -- ---- what is put at a place

  -- by how the number compares to the first one
  abbrev placed : X → ℕ × X → List (ℕ × X) → Ordering → List (ℕ × X)
  placed x y ys o = match_ordering o ((id, x) ∷ y ∷ ys) ((y.0, x) ∷ ys) (y ∷ insert_entry nat_cmp ys id x)

  put_behind : (x : X) (y : ℕ × X) (ys zs : List (ℕ × X)) → y.0 < id → zs ≡ insert_entry nat_cmp ys id x → y ∷ zs ≡ insert_entry nat_cmp (y ∷ ys) id x
  put_behind x y ys zs below more = ap (λ (all : List (ℕ × X)). y ∷ all) more ∙ ap (placed x y ys) (nat_cmp_is id y.0 Greater below)

  -- in place of what stands there
  pub put_over : (x : X) (ys : List (ℕ × X)) (i : ℕ) → IsAt id ys i → set ys i (id, x) ≡ insert_entry nat_cmp ys id x
  put_over x [] i here = absurd here
  put_over x (y ∷ ys) zero here = ap (λ (n : ℕ). (n, x) ∷ ys) (sym here) ∙ ap (placed x y ys) (nat_cmp_is id y.0 Equal (sym here))
  put_over x (y ∷ ys) (suc i) here = put_behind x y ys (set ys i (id, x)) here.0 (put_over x ys i here.1)

  -- in a gap
  pub put_between : (x : X) (ys : List (ℕ × X)) (i : ℕ) → IsGap id ys i → insert ys i (id, x) ≡ insert_entry nat_cmp ys id x
  put_between x [] zero gap = refl
  put_between x [] (suc i) gap = absurd gap
  put_between x (y ∷ ys) zero gap = ap (placed x y ys) (nat_cmp_is id y.0 Less gap)
  put_between x (y ∷ ys) (suc i) gap = put_behind x y ys (insert ys i (id, x)) gap.0 (put_between x ys i gap.1)

  -- ---- what a search finds

  -- a number that stands behind higher ones is one of these
  above_place : (q : ℕ) (xs : List (ℕ × X)) (i : ℕ) → AllByRecursion (λ k. nat_cmp q k ≡ Less) (keys_of xs) → IsAt id xs i → q < id
  above_place q [] i above here = absurd here
  above_place q (x ∷ xs) zero above here = subst (λ (n : ℕ). q < n) here (ranked q x.0 Less (sym above.0))
  above_place q (x ∷ xs) (suc i) above here = above_place q xs i above.1 here.1

  found_place : (xs : List (ℕ × X)) (i : ℕ) → IsStrictlySortedBy nat_cmp (keys_of xs) → i < length xs → ((d : ℕ × X) → nat_cmp (get_or xs i d).0 id ≡ Equal) → IsAt id xs i
  unfolding IsStrictlySortedBy
  found_place [] i rising inside equal = absurd (omega arith)
  found_place (x ∷ xs) zero rising inside equal = ranked x.0 id Equal (sym (equal x))
  found_place (x ∷ xs) (suc i) rising inside equal =
      let here : IsAt id xs i = found_place xs i rising.1 (omega arith) equal in
      (above_place x.0 xs i rising.0 here, here)

  found_gap : (xs : List (ℕ × X)) (i : ℕ) → i ≤ length xs → IsPartitionPoint (λ row. nat_cmp row.0 id ≡ Less) (λ row. nat_cmp row.0 id ≡ Greater) xs i → IsGap id xs i
  found_gap [] zero inside parted = tt
  found_gap [] (suc i) inside parted = absurd (omega arith)
  found_gap (x ∷ xs) zero inside parted = ranked x.0 id Greater (sym (parted.1 0 x (omega arith) (omega arith)))
  found_gap (x ∷ xs) (suc i) inside parted = (
    ranked x.0 id Less (sym (parted.0 0 x (omega arith) (omega arith))),
    found_gap xs i (omega arith) (λ k d low high. parted.0 (suc k) d (omega arith) (omega arith), λ k d low high. parted.1 (suc k) d (omega arith) (omega arith)),
  )

-- ---- the last one

module _ {X : Type 0} where
  above_got : (q : ℕ) (xs : List (ℕ × X)) (i : ℕ) (row : ℕ × X) → AllByRecursion (λ k. nat_cmp q k ≡ Less) (keys_of xs) → slice_get xs i ≡ Some row → q < row.0
  above_got q [] i row above got = absurd (cc)
  above_got q (x ∷ xs) zero row above got = let same : x ≡ row = cc in subst (λ (r : ℕ × X). q < r.0) same (ranked q x.0 Less (sym above.0))
  above_got q (x ∷ xs) (suc i) row above got = above_got q xs i row above.1 got

  -- a number above the last one comes behind all
  pub past_gap : (id : ℕ) (xs : List (ℕ × X)) (i : ℕ) (row : ℕ × X) → IsStrictlySortedBy nat_cmp (keys_of xs) → i ≡ length xs - 1 → slice_get xs i ≡ Some row → row.0 < id → IsGap id xs (length xs)
  unfolding IsStrictlySortedBy
  past_gap id [] i row rising last got below = tt
  past_gap id (x ∷ []) zero row rising last got below = let same : row ≡ x = cc in (subst (λ (r : ℕ × X). r.0 < id) same below, tt)
  past_gap id (x ∷ y ∷ ys) zero row rising last got below = absurd (omega (arith, last))
  past_gap id (x ∷ xs) (suc i) row rising last got below =
      let first : x.0 < row.0 = above_got x.0 xs i row rising.0 got in
      (omega (arith, first, below), past_gap id xs i row rising.1 (omega (arith, last)) got below)

  -- a number that is read at a place stands there
  pub read_place : (id : ℕ) (xs : List (ℕ × X)) (i : ℕ) (row : ℕ × X) → IsStrictlySortedBy nat_cmp (keys_of xs) → i < length xs → ((d : ℕ × X) → row ≡ get_or xs i d) → row.0 ≡ id → IsAt id xs i
  read_place id xs i row rising inside read same = found_place id xs i rising inside (λ d. sym (nat_cmp_is (get_or xs i d).0 id Equal (ap (λ (r : ℕ × X). r.0) (sym (read d)) ∙ same)))

-- the numbers don't fall
all_above : {X : Type 0} (q : ℕ) (xs : List (ℕ × X)) (j : ℕ) (d : ℕ × X) → AllByRecursion (λ k. nat_cmp q k ≡ Less) (keys_of xs) → j < length xs → q < (get_or xs j d).0
all_above q [] j d above inside = absurd (omega arith)
all_above q (x ∷ xs) zero d above inside = ranked q x.0 Less (sym above.0)
all_above q (x ∷ xs) (suc j) d above inside = all_above q xs j d above.1 (omega arith)

numbers_rise : {X : Type 0} (xs : List (ℕ × X)) (i j : ℕ) (d : ℕ × X) → IsStrictlySortedBy nat_cmp (keys_of xs) → i ≤ j → j < length xs → (get_or xs i d).0 ≤ (get_or xs j d).0
unfolding IsStrictlySortedBy
numbers_rise [] i j d rising le inside = absurd (omega arith)
numbers_rise (x ∷ xs) zero zero d rising le inside = omega arith
numbers_rise (x ∷ xs) zero (suc j) d rising le inside = omega (arith, all_above x.0 xs j d rising.0 (omega arith))
numbers_rise (x ∷ xs) (suc i) zero d rising le inside = absurd (omega arith)
numbers_rise (x ∷ xs) (suc i) (suc j) d rising le inside = numbers_rise xs i j d rising.1 (omega arith) (omega arith)

-- a search ends at the number, or at the gap for it
pub searched : {X : Type 0} (xs : List (ℕ × X)) (id : ℕ) (r : Result ℕ ℕ) → IsStrictlySortedBy nat_cmp (keys_of xs) → IsSearchInRange r (length xs) → IsBinarySearchResult (λ row. nat_cmp row.0 id) xs r
    → record { found : IfOk r (IsAt id xs); absent : IfErr r (IsGap id xs) }
searched xs id (Ok i) rising inside equal = record { found = found_place id xs i rising inside equal; absent = tt }
searched xs id (Err i) rising inside parted = record {
  found = tt;
  absent = found_gap id xs i inside (parted (λ i j d le low. index_rises (get_or xs i d).0 (get_or xs j d).0 id (numbers_rise xs i j d rising le low)));
}
