-- Records that a search cuts at a key, and what is done at that place.
use Rattle.std.proofs.Common.{◌≡◌, ℕ, ◌-◌, ltb, ltb-true, true, ◌<◌, ◌≤◌, zero, suc, List, [], ◌∷◌, ◌++◌, Some, None, refl, sym, ap, subst, ◌∙◌, length, take, drop, get_or, set, append-nil, arith}
use Rattle.std.proofs.Math.Seq.{drop-cons}
use Rattle.std.proofs.lemmas.List.{take-append-drop, length-append, length-take-le, get_or_at, set_at, take_at, drop_at}
use Rattle.std.specs.Prelude.{Result, Ok, Err}
use Rattle.std.specs.List.{AllByRecursion, insert, remove}
use Rattle.std.specs.List.Sorted.{IsBinarySearchResult, IsNonDecreasingBy, IsSearchInRange, IsStrictlySortedBy}
use Rattle.std.specs.Map.{keys_of}
use Rattle.std.specs.Ordering.{is_eq, is_le, is_lt, ordering_index, ordering_reverse}
use Rattle.std.specs.declared.cmp.Ordering.{Ordering}
use Rattle.std.specs.declared.cmp.Ordering.TheVariants.{Less, Equal, Greater}
use Rattle.ode_value.specs.declared.key.Key.{Key}
use Rattle.ode_value.specs.Keys.{key_cmp}
use Rattle.ode_value.specs.Records.{Row}
use Rattle.ode_keep.specs.Entries.{Entries, HasRisingKeys, changed, entries_from, value_under}
use Rattle.ode_keep.proofs.Keys.{key_total, same_key}
use Rattle.ode_chunks.specs.Cuts.{AreBelow, IsCutAt, IsPlace}
use Rattle.ode_chunks.proofs.Cutting.{all_less, changed_between, from_between, last_split, le_less, one_changed, one_from, one_gone, one_under, rising_above, rising_below, turned, up_to, value_between}

-- an answer that passes as less is less
is_less : (r : Ordering) → is_lt r ≡ true → r ≡ Less
is_less Less less = refl
is_less Equal less = absurd (cc (less))
is_less Greater less = absurd (cc (less))

-- ---- the search

-- how a key stands to another
abbrev order_to : Key → Row → Ordering
order_to key row = key_cmp row.0 key

-- a later key stands no lower to the key that is sought
later_at : (key a b : Key) → key_cmp a b ≡ Less → (r : Ordering) → key_cmp a key ≡ r → ordering_index r ≤ ordering_index (key_cmp b key)
later_at key a b less Less is = omega arith
later_at key a b less Equal is =
    let back : key_cmp b key ≡ Greater = turned key b (sym (key_total.congr a key b is) ∙ less) in
    rw back (omega arith)
later_at key a b less Greater is =
    let below : key_cmp key a ≡ Less = key_total.antisymm key a ∙ ap ordering_reverse is in
    let back : key_cmp b key ≡ Greater = turned key b (key_total.trans key a b below less) in
    rw back (omega arith)

-- what all keys have, each has
each_key : (P : Key → Type 0) (rows : Entries) (k : ℕ) (d : Row) → k < length rows → AllByRecursion P (keys_of rows) → P (get_or rows k d).0
each_key P [] k d lt all = absurd (omega arith)
each_key P (r ∷ rows) zero d lt all = all.0
each_key P (r ∷ rows) (suc k) d lt all = each_key P rows k d (omega arith) all.1

-- so the answers of a search rise
rising_orders : (key : Key) (rows : Entries) → HasRisingKeys rows → IsNonDecreasingBy (λ row. ordering_index (order_to key row)) rows
unfolding IsStrictlySortedBy
rising_orders key [] rising i j d le lt = absurd (omega arith)
rising_orders key (r ∷ rows) rising zero zero d le lt = omega arith
rising_orders key (r ∷ rows) rising zero (suc j) d le lt =
    later_at key r.0 (get_or rows j d).0 (each_key (λ y. key_cmp r.0 y ≡ Less) rows j d (omega arith) rising.0) (key_cmp r.0 key) refl
rising_orders key (r ∷ rows) rising (suc i) zero d le lt = absurd (omega arith)
rising_orders key (r ∷ rows) rising (suc i) (suc j) d le lt = rising_orders key rows rising.1 i j d (omega arith) (omega arith)

-- what each of the first keys has
front_keys : (P : Key → Type 0) (rows : Entries) (i : ℕ) → i ≤ length rows → ((k : ℕ) (d : Row) → 0 ≤ k → k < i → P (get_or rows k d).0) → AllByRecursion P (keys_of (take i rows))
front_keys P [] zero le each = tt
front_keys P [] (suc i) le each = absurd (omega arith)
front_keys P (r ∷ rows) zero le each = tt
front_keys P (r ∷ rows) (suc i) le each = (each 0 r (omega arith) (omega arith), front_keys P rows i (omega arith) (λ k d from lt. each (suc k) d (omega arith) (omega arith)))

-- and each of the others
back_keys : (P : Key → Type 0) (rows : Entries) (i : ℕ) → ((k : ℕ) (d : Row) → i ≤ k → k < length rows → P (get_or rows k d).0) → AllByRecursion P (keys_of (drop i rows))
back_keys P [] zero each = tt
back_keys P [] (suc i) each = tt
back_keys P (r ∷ rows) zero each = (each 0 r (omega arith) (omega arith), back_keys P rows zero (λ k d from lt. each (suc k) d (omega arith) (omega arith)))
back_keys P (r ∷ rows) (suc i) each = back_keys P rows i (λ k d from lt. each (suc k) d (omega arith) (omega arith))

-- a record of the key cuts the records
place_found : (rows : Entries) (key : Key) (at : ℕ) (value : List ℕ) (behind : Entries) → HasRisingKeys rows → at ≤ length rows → rows ≡ take at rows ++ (key, value) ∷ behind → IsCutAt rows key at ((key, value) ∷ [])
place_found rows key at value behind rising le whole =
    let here : HasRisingKeys (take at rows ++ (key, value) ∷ behind) = subst (λ (l : Entries). HasRisingKeys l) whole rising in
    record {
      before = take at rows;
      behind = behind;
      cut = record {
        whole = whole;
        below = rising_below (take at rows) (key, value) behind here;
        above = rising_above (take at rows) (key, value) behind here;
      };
      place = sym (length-take-le at rows le);
    }

-- where the search ends, the records are cut
pub placed : (rows : Entries) (key : Key) (r : Result ℕ ℕ) → HasRisingKeys rows → IsSearchInRange r (length rows) → IsBinarySearchResult (order_to key) rows r → IsPlace rows key r
placed rows key (Ok at) rising within found =
    let d : Row = (key, []) in
    let row = get_or rows at d in
    let same : key ≡ row.0 = same_key row.0 key (ap is_eq (found d)) in
    let split : rows ≡ take at rows ++ row ∷ drop (suc at) rows = sym (take-append-drop at rows) ∙ ap (λ (l : Entries). take at rows ++ l) (drop-cons rows at d within) in
    let whole : rows ≡ take at rows ++ (key, row.1) ∷ drop (suc at) rows = split ∙ ap (λ (q : Key). take at rows ++ (q, row.1) ∷ drop (suc at) rows) (sym same) in
    (row.1, place_found rows key at row.1 (drop (suc at) rows) rising (omega arith) whole)
placed rows key (Err at) rising within found =
    let parts = found (rising_orders key rows rising) in
    record {
      before = take at rows;
      behind = drop at rows;
      cut = record {
        whole = sym (take-append-drop at rows);
        below = front_keys (λ y. key_cmp y key ≡ Less) rows at within parts.0;
        above = back_keys (λ y. key_cmp key y ≡ Less) rows at (λ k d from lt. key_total.antisymm key (get_or rows k d).0 ∙ ap ordering_reverse (parts.1 k d from lt));
      };
      place = sym (length-take-le at rows within);
    }

-- behind the last record, where the key is above that one's
pub place_behind : (rows : Entries) (key : Key) (r : Row) → HasRisingKeys rows → ltb 0 (length rows) ≡ true → r ≡ get_or rows (length rows - 1) r → is_lt (key_cmp r.0 key) ≡ true → IsCutAt rows key (length rows) []
place_behind rows key r rising some at less =
    let split = last_split rows r (ltb-true 0 (length rows) some) at in
    let here : HasRisingKeys (take (length rows - 1) rows ++ r ∷ []) = subst (λ (l : Entries). HasRisingKeys l) split rising in
    let below : AreBelow key (keys_of (take (length rows - 1) rows ++ r ∷ [])) =
    all_less (λ y. is_le (key_cmp y r.0) ≡ true) (λ y. key_cmp y key ≡ Less) (λ y le. le_less y r.0 key le (is_less (key_cmp r.0 key) less)) (keys_of (take (length rows - 1) rows ++ r ∷ []))
    (up_to (take (length rows - 1) rows) r (rising_below (take (length rows - 1) rows) r [] here)) in
    record {
      before = rows;
      behind = [];
      cut = record {
        whole = sym (append-nil rows);
        below = subst (λ (l : Entries). AreBelow key (keys_of l)) (sym split) below;
        above = tt;
      };
      place = refl;
    }

-- ---- at the place

module _ (rows : Entries) (key : Key) (at : ℕ) where
  -- what stands in front of the place, and from it on
  behind_place : (here : Entries) → (cut : IsCutAt rows key at here) → drop at rows ≡ here ++ cut.behind
  behind_place here cut = ap (drop at) cut.cut.whole ∙ drop_at cut.before (here ++ cut.behind) at (sym cut.place)

  before_place : (here : Entries) → (cut : IsCutAt rows key at here) → take at rows ≡ cut.before
  before_place here cut = ap (take at) cut.cut.whole ∙ take_at cut.before (here ++ cut.behind) at (sym cut.place)

  -- the records from the key on
  from_place : (here : Entries) → entries_from here key ≡ here → IsCutAt rows key at here → drop at rows ≡ entries_from rows key
  from_place here all cut = behind_place here cut ∙ ap (λ l. l ++ cut.behind) (sym all) ∙ sym (from_between rows key cut.before here cut.behind cut.cut)

  -- from the record of the key on
  pub from_found : (value : List ℕ) → IsCutAt rows key at ((key, value) ∷ []) → drop at rows ≡ entries_from rows key
  from_found value cut = from_place ((key, value) ∷ []) (one_from key value) cut

  -- and where there is none
  pub from_none : IsCutAt rows key at [] → drop at rows ≡ entries_from rows key
  from_none cut = from_place [] refl cut

  -- the record there
  pub item_found : (value : List ℕ) (d : Row) → IsCutAt rows key at ((key, value) ∷ []) → get_or rows at d ≡ (key, value)
  item_found value d cut = ap (λ l. get_or l at d) cut.cut.whole ∙ get_or_at cut.before (key, value) cut.behind d at (sym cut.place)

  -- the place is within the records
  within_found : (value : List ℕ) → IsCutAt rows key at ((key, value) ∷ []) → at < length rows
  within_found value cut = omega (arith, cut.place, ap (λ (l : Entries). length l) cut.cut.whole, length-append cut.before ((key, value) ∷ cut.behind))

  -- what stands under the key
  pub under_found : (value : List ℕ) → IsCutAt rows key at ((key, value) ∷ []) → value_under rows key ≡ Some value
  under_found value cut = value_between rows key cut.before ((key, value) ∷ []) cut.behind cut.cut ∙ one_under key value

  -- and where nothing does
  pub under_none : IsCutAt rows key at [] → value_under rows key ≡ None
  under_none cut = value_between rows key cut.before [] cut.behind cut.cut

  -- the record there gets another value
  pub set_found : (value other : List ℕ) → IsCutAt rows key at ((key, value) ∷ []) → set rows at (key, other) ≡ changed rows key (Some other)
  set_found value other cut =
      ap (λ l. set l at (key, other)) cut.cut.whole
      ∙ set_at cut.before (key, value) cut.behind (key, other) at (sym cut.place)
      ∙ ap (λ l. cut.before ++ (l ++ cut.behind)) (sym (one_changed key value other))
      ∙ sym (changed_between rows key cut.before ((key, value) ∷ []) cut.behind (Some other) cut.cut)

  -- a record comes in there
  pub insert_none : (value : List ℕ) → IsCutAt rows key at [] → insert rows at (key, value) ≡ changed rows key (Some value)
  insert_none value cut =
      ap (λ l. l ++ (key, value) ∷ drop at rows) (before_place [] cut)
      ∙ ap (λ (l : Entries). cut.before ++ (key, value) ∷ l) (behind_place [] cut)
      ∙ sym (changed_between rows key cut.before [] cut.behind (Some value) cut.cut)

  -- the record there goes
  pub remove_found : (value : List ℕ) → IsCutAt rows key at ((key, value) ∷ []) → remove rows at ≡ changed rows key None
  remove_found value cut =
      let next : drop at rows ≡ get_or rows at (key, value) ∷ drop (suc at) rows = drop-cons rows at (key, value) (within_found value cut) in
      let here : drop at rows ≡ (key, value) ∷ cut.behind = behind_place ((key, value) ∷ []) cut in
      let rest : drop (suc at) rows ≡ cut.behind = cc (next, here) in
      ap (λ l. l ++ drop (suc at) rows) (before_place ((key, value) ∷ []) cut)
      ∙ ap (λ (l : Entries). cut.before ++ l) rest
      ∙ ap (λ (l : Entries). cut.before ++ (l ++ cut.behind)) (sym (one_gone key value))
      ∙ sym (changed_between rows key cut.before ((key, value) ∷ []) cut.behind None cut.cut)

  -- where there is none, none goes
  pub gone_none : IsCutAt rows key at [] → changed rows key None ≡ rows
  gone_none cut = changed_between rows key cut.before [] cut.behind None cut.cut ∙ sym cut.cut.whole
