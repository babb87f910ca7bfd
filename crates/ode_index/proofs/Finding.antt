-- The rows of a value among rows in the order of their values.
use Rattle.std.proofs.Common.{◌≡◌, ◌⊎◌, inl, inr, ℕ, ◌+◌, ◌-◌, ◌<◌, ◌≤◌, List, length, map, take, drop, get_or, refl, sym, ap, subst, ◌∙◌, arith}
use Rattle.std.proofs.Math.ListN.{get_or-map}
use Rattle.std.proofs.lemmas.Bool.{cases_lt, false≢true}
use Rattle.std.proofs.lemmas.Cmp.{tied_itself}
use Rattle.std.proofs.lemmas.List.{get_or-drop, get_or-take, length-drop, length-map, length-take-le}
use Rattle.std.proofs.lemmas.List.MinMax.{ranks_by}
use Rattle.std.proofs.lemmas.List.Sorted.{sorted_far}
use Rattle.std.specs.Cmp.{IsStrictWeakOrder}
use Rattle.std.specs.List.{Contains}
use Rattle.std.specs.List.Sorted.{IsPartitionedBy, IsPartitionPoint, IsSortedByKey}
use Rattle.std.specs.Ordering.{is_le, is_lt, ordering_reverse}
use Rattle.std.specs.Prelude.{Bool, true, false, not}
use Rattle.std.specs.declared.cmp.Ordering.{Ordering}
use Rattle.std.specs.declared.cmp.Ordering.TheVariants.{Less, Equal, Greater}
use Rattle.ode_value.specs.declared.value.Value.{Value}
use Rattle.ode_index.specs.Numbers.{number_of, value_of, IsBeside}
use Rattle.ode_index.specs.Order.{value_cmp}
use Rattle.ode_index.proofs.OrderLaws.{equal_values, value_total}

abbrev pub less : Value × ℕ → Value × ℕ → Bool
less a b = is_lt (value_cmp (value_of a) (value_of b))

pub ranked : IsStrictWeakOrder less
ranked = ranks_by value_total value_of

-- a value that isn't above the other one has it not below
turned : (o : Ordering) → is_le (ordering_reverse o) ≡ not (is_lt o)
turned Less = refl
turned Equal = refl
turned Greater = refl

up_to : (v w : Value) → is_le (value_cmp w v) ≡ not (is_lt (value_cmp v w))
up_to v w = ap is_le (value_total.antisymm w v) ∙ turned (value_cmp v w)

not_true : (b : Bool) → not b ≡ true → b ≡ false
not_true true e = sym e
not_true false e = refl

not_less : (o : Ordering) → is_lt o ≡ false → is_le o ≡ true → o ≡ Equal
not_less Less f g = absurd (false≢true (sym f))
not_less Equal f g = refl
not_less Greater f g = absurd (false≢true g)

module _ (v : Value) where
  abbrev pub below : Value × ℕ → Bool
  below row = is_lt (value_cmp row.0 v)

  abbrev pub not_above : Value × ℕ → Bool
  not_above row = is_le (value_cmp row.0 v)

  -- rows below a value stand in front, and so do rows that aren't above it
  pub below_first : (rows : List (Value × ℕ)) → IsSortedByKey value_of value_cmp rows → IsPartitionedBy below rows
  below_first rows up i j d le lt h = by (below (get_or rows i d)) refl where
    far : less (get_or rows j d) (get_or rows i d) ≡ false
    far = sorted_far less ranked rows up i j d le lt

    by : (b : Bool) → below (get_or rows i d) ≡ b → b ≡ true
    by true e = refl
    by false e = absurd (false≢true (sym (ranked.chain (get_or rows j d) (get_or rows i d) (v, 0) far e) ∙ h))

  pub not_above_first : (rows : List (Value × ℕ)) → IsSortedByKey value_of value_cmp rows → IsPartitionedBy not_above rows
  not_above_first rows up i j d le lt h =
      let far = sorted_far less ranked rows up i j d le lt in
      let high = not_true _ (sym (up_to v (get_or rows j d).0) ∙ h) in
      up_to v (get_or rows i d).0 ∙ ap not (ranked.chain (v, 0) (get_or rows j d) (get_or rows i d) high far)

  pub partitioned_drop : (p : Value × ℕ → Bool) (rows : List (Value × ℕ)) (n : ℕ) → IsPartitionedBy p rows → IsPartitionedBy p (drop n rows)
  partitioned_drop p rows n h i j d le lt e =
      let short : j < length rows - n = subst (λ k. j < k) (length-drop n rows) lt in
      ap p (get_or-drop n rows i d) ∙ h (n + i) (n + j) d (omega (arith, le)) (omega (arith, short)) (ap p (sym (get_or-drop n rows j d)) ∙ e)

  module _ (rows : List (Value × ℕ)) (i j : ℕ) (low : j ≤ length (drop i rows))
      (first : IsPartitionPoint (λ y. below y ≡ true) (λ y. below y ≡ false) rows i)
      (second : IsPartitionPoint (λ y. not_above y ≡ true) (λ y. not_above y ≡ false) (drop i rows) j) where
    abbrev pub same_rows : List (Value × ℕ)
    same_rows = take j (drop i rows)

    at_same : (k : ℕ) (d : Value × ℕ) → k < j → get_or same_rows k d ≡ get_or rows (i + k) d
    at_same k d lt = get_or-take j (drop i rows) k d lt ∙ get_or-drop i rows k d

    room : j ≤ length rows - i
    room = subst (λ n. j ≤ n) (length-drop i rows) low

    -- a row there has the value
    has_value : (k : ℕ) (d : Value × ℕ) → k < j → (get_or rows (i + k) d).0 ≡ v
    has_value k d lt =
        let row = get_or rows (i + k) d in
        let f : is_lt (value_cmp row.0 v) ≡ false = first.1 (i + k) d (omega arith) (omega (arith, lt, room)) in
        let g : is_le (value_cmp row.0 v) ≡ true = ap not_above (sym (get_or-drop i rows k d)) ∙ second.0 k d (omega arith) lt in
        equal_values row.0 v (not_less (value_cmp row.0 v) f g)

    count_same : length (map number_of same_rows) ≡ j
    count_same = length-map same_rows number_of ∙ length-take-le j (drop i rows) low

    number_at : (k : ℕ) (d : Value × ℕ) → k < j → get_or (map number_of same_rows) k (number_of d) ≡ number_of (get_or rows (i + k) d)
    number_at k d lt = get_or-map number_of same_rows k d ∙ ap number_of (at_same k d lt)

    found : (n : ℕ) → Contains (map number_of same_rows) n → Contains rows (v, n)
    found n (k, lt, e) =
        let low_k : k < j = subst (λ m. k < m) count_same lt in
        let number : number_of (get_or rows (i + k) (v, n)) ≡ n = sym (number_at k (v, n) low_k) ∙ e in
        let same_value = has_value k (v, n) low_k in
        (i + k, omega (arith, low_k, room), λ t. (same_value t, number t))

    -- the value is neither below itself nor above
    not_below_itself : (n : ℕ) → below (v, n) ≡ false
    not_below_itself n = ap is_lt (tied_itself value_total v)

    not_above_itself : (n : ℕ) → not_above (v, n) ≡ true
    not_above_itself n = ap is_le (tied_itself value_total v)

    behind : (n k : ℕ) → get_or rows k (v, n) ≡ (v, n) → (k < i) ⊎ (i ≤ k) → i ≤ k
    behind n k e (inl lt) = absurd (false≢true (sym (not_below_itself n) ∙ (ap below (sym e) ∙ first.0 k (v, n) (omega arith) lt)))
    behind n k e (inr le) = le

    before : (n m : ℕ) → m < length (drop i rows) → get_or (drop i rows) m (v, n) ≡ (v, n) → (m < j) ⊎ (j ≤ m) → m < j
    before n m lt e (inl low_m) = low_m
    before n m lt e (inr le) = absurd (false≢true (sym (second.1 m (v, n) le lt) ∙ (ap not_above e ∙ not_above_itself n)))

    kept : (n : ℕ) → Contains rows (v, n) → Contains (map number_of same_rows) n
    kept n (k, lt, e) =
        let le = behind n k e (cases_lt k i) in
        let place : i + (k - i) ≡ k = omega (arith, le) in
        let here : get_or (drop i rows) (k - i) (v, n) ≡ (v, n) = get_or-drop i rows (k - i) (v, n) ∙ ap (λ m. get_or rows m (v, n)) place ∙ e in
        let inside : k - i < length (drop i rows) = subst (λ m. k - i < m) (sym (length-drop i rows)) (omega (arith, le, lt)) in
        let low_m = before n (k - i) inside here (cases_lt (k - i) j) in
        let number : number_of (get_or rows (i + (k - i)) (v, n)) ≡ n = ap (λ m. number_of (get_or rows m (v, n))) place ∙ ap number_of e in
        (k - i, subst (λ m. k - i < m) (sym count_same) low_m, number_at (k - i) (v, n) low_m ∙ number)

    pub rows_beside : IsBeside v rows same_rows
    rows_beside n = (found n, kept n)
