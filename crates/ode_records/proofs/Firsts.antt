-- The first records at or above a key, kind by kind.
use Rattle.std.proofs.Common.{◌≡◌, ◌<◌, ◌≤◌, ◌+◌, ℕ, suc, zero, List, [], ◌∷◌, ◌++◌, length, drop, get_or, true, false, cond, Option, Some, None, refl, sym, ap, subst, ◌∙◌, arith, add-one, append_assoc}
use Rattle.std.specs.Prelude.{◌==◌, ◌&&◌}
use Rattle.std.specs.BTreeMap.{is_at}
use Rattle.std.specs.List.{slice_get}
use Rattle.std.specs.List.Sorted.{IsStrictlySortedBy}
use Rattle.std.specs.Map.{keys_of}
use Rattle.std.specs.Ordering.{is_eq, is_le}
use Rattle.std.specs.declared.cmp.Ordering.{Ordering}
use Rattle.std.specs.declared.cmp.Ordering.TheVariants.{Less, Equal, Greater}
use Rattle.std.proofs.lemmas.Bool.Decides.{Decides-eqb, nat_tests}
use Rattle.std.proofs.lemmas.List.{nil_from_length}
use Rattle.std.proofs.lemmas.List.Elements.{filter-append}
use Rattle.ode_value.specs.declared.key.Key.{Key}
use Rattle.ode_value.specs.Keys.{key_cmp}
use Rattle.ode_value.specs.Records.{Row}
use Rattle.ode_keep.specs.Entries.{Entries, HasRisingKeys, StartsOf, entries_from, value_under}
use Rattle.ode_keep.proofs.Keys.{key_total}
use Rattle.ode_chunks.specs.Cuts.{AreAbove, AreBelow}
use Rattle.ode_records.specs.Kinds.{AreKinds, all_of}
use Rattle.ode_chunks.proofs.Cutting.{all_less, gone, turned, value_between}
use Rattle.ode_records.proofs.Kinding.{lower, split_at}

no_rows : (rows : Entries) → true ≡ (length rows == 0) → rows ≡ []
no_rows rows is = nil_from_length rows ((Decides-eqb (length rows) 0).0 (sym is))

some_rows : (rows : Entries) → false ≡ (length rows == 0) → rows ≡ [] → ⊥
some_rows rows some is = cc (some, ap (λ (l : Entries). length l == 0) is)

module _ (k : Key) where
  all_from : (es rest : Entries) → entries_from (es ++ rest) k ≡ entries_from es k ++ entries_from rest k
  all_from es rest = filter-append (λ (e : Row). is_le (key_cmp k e.0)) es rest

  from_behind : (es rest : Entries) → entries_from es k ≡ [] → entries_from (es ++ rest) k ≡ entries_from rest k
  from_behind es rest none = all_from es rest ∙ ap (λ (l : Entries). l ++ entries_from rest k) none

  none_below : (es : Entries) → AreBelow k (keys_of es) → entries_from es k ≡ []
  none_below es below = gone (λ y. is_le (key_cmp k y)) es (all_less (λ y. key_cmp y k ≡ Less) (λ y. is_le (key_cmp k y) ≡ false) (λ y less. ap is_le (turned y k less)) (keys_of es) below)

  from_higher : (n i : ℕ) (kinds : List Entries) → n + i ≤ k.kind → AreKinds n kinds → entries_from (all_of (drop i kinds)) k ≡ entries_from (all_of kinds) k
  from_higher n zero kinds at are = refl
  from_higher n (suc i) [] at are = refl
  from_higher n (suc i) (es ∷ kinds) at are =
      from_higher (suc n) i kinds (omega (arith, at)) are.1
      ∙ sym (from_behind es (all_of kinds) (none_below es (lower k n es (omega (arith, at)) are.0)))

  -- those at or above a key are among those of its kind and of higher ones
  pub from_kind : (kinds : List Entries) → AreKinds 0 kinds → entries_from (all_of (drop k.kind kinds)) k ≡ entries_from (all_of kinds) k
  from_kind kinds are = from_higher 0 k.kind kinds (omega arith) are

  starts_more : (rows all more : Entries) → (rows ≡ [] → ⊥) → StartsOf rows all → StartsOf rows (all ++ more)
  starts_more [] all more some starts = absurd (some refl)
  starts_more (r ∷ rows) all more some starts = (starts.0 ++ more, ap (λ (l : Entries). l ++ more) starts.1 ∙ append_assoc (r ∷ rows) starts.0 more)

  module _ (kinds : List Entries) (i : ℕ) (es : Entries) (here : es ≡ get_or kinds i es) (less : i < length kinds) (so_far : entries_from (all_of (drop i kinds)) k ≡ entries_from (all_of kinds) k) where
    both : entries_from es k ++ entries_from (all_of (drop (suc i) kinds)) k ≡ entries_from (all_of kinds) k
    both = sym (all_from es (all_of (drop (suc i) kinds))) ∙ ap (λ (l : List Entries). entries_from (all_of l) k) (sym (split_at kinds i es here less)) ∙ so_far

    -- the first of a kind that has some
    pub first_here : (rows : Entries) → false ≡ (length rows == 0) → StartsOf rows (entries_from es k) → StartsOf rows (entries_from (all_of kinds) k)
    first_here rows some starts = subst (λ (l : Entries). StartsOf rows l) both (starts_more rows (entries_from es k) (entries_from (all_of (drop (suc i) kinds)) k) (some_rows rows some) starts)

    -- where a kind has none, they are those of the kinds behind it
    pub none_here : (rows : Entries) → true ≡ (length rows == 0) → StartsOf rows (entries_from es k) → entries_from (all_of (drop (i + 1) kinds)) k ≡ entries_from (all_of kinds) k
    none_here rows none starts =
        let empty : entries_from es k ≡ [] = subst (λ (l : Entries). StartsOf l (entries_from es k)) (no_rows rows none) starts in
        rw add-one (ap (λ (l : Entries). l ++ entries_from (all_of (drop (suc i) kinds)) k) (sym empty) ∙ both)

-- ---- the value under a key

pub first_of : (rows all : Entries) → StartsOf rows all → slice_get rows 0 ≡ slice_get all 0
first_of [] all starts = ap (λ (l : Entries). slice_get l 0) (sym starts)
first_of (r ∷ rows) all starts = ap (λ (l : Entries). slice_get l 0) (sym starts.1)

-- the value of the first record from a key on, if it has this key
abbrev value_at : Key → Option Row → Option (List ℕ)
value_at k None = None
value_at k (Some e) = cond (is_at (key_cmp k) e.0) (Some e.1) None

none_above : (k : Key) (es : Entries) → AreAbove k (keys_of es) → value_under es k ≡ None
none_above k es above = value_between es k [] [] es (record { whole = refl; below = tt; above = above })

first_under_at : (k : Key) (e : Row) (es : Entries) → HasRisingKeys (e ∷ es) → value_under es k ≡ value_at k (slice_get (entries_from es k) 0)
    → (r : Ordering) → key_cmp k e.0 ≡ r → cond (is_eq r) (Some e.1) (value_under es k) ≡ value_at k (slice_get (cond (is_le r) (e ∷ entries_from es k) (entries_from es k)) 0)
unfolding IsStrictlySortedBy
first_under_at k e es rising more Less is =
    none_above k es (all_less (λ y. key_cmp e.0 y ≡ Less) (λ y. key_cmp k y ≡ Less) (λ y less. key_total.trans k e.0 y is less) (keys_of es) rising.0)
    ∙ ap (λ (o : Ordering). cond (is_eq o) (Some e.1) None) (sym is)
first_under_at k e es rising more Equal is = ap (λ (o : Ordering). cond (is_eq o) (Some e.1) None) (sym is)
first_under_at k e es rising more Greater is = more

first_under : (k : Key) (es : Entries) → HasRisingKeys es → value_under es k ≡ value_at k (slice_get (entries_from es k) 0)
unfolding IsStrictlySortedBy
first_under k [] rising = refl
first_under k (e ∷ es) rising = first_under_at k e es rising (first_under k es rising.1) (key_cmp k e.0) refl

-- keys are equal where they tie
pub same_key_test : (k q : Key) → ((q.kind == k.kind) && ((q.a == k.a) && (q.b == k.b))) ≡ is_at (key_cmp k) q
same_key_test k q = grind (arith, nat_tests)

module _ (k : Key) (es rows : Entries) (rising : HasRisingKeys es) (starts : StartsOf rows (entries_from es k)) where
  value_first : (first : Option Row) → first ≡ slice_get rows 0 → value_under es k ≡ value_at k first
  value_first first is = first_under k es rising ∙ ap (value_at k) (sym (is ∙ first_of rows (entries_from es k) starts))

  -- there is none where there are no records from the key on
  pub none_first : None ≡ slice_get rows 0 → value_under es k ≡ None
  none_first is = value_first None is

  -- and else it is that of the first of them, if it has the key
  pub some_first : (e : Row) → Some e ≡ slice_get rows 0 → value_under es k ≡ cond (is_at (key_cmp k) e.0) (Some e.1) None
  some_first e is = value_first (Some e) is
