-- By how many records of a kind changes make records grow.
use Rattle.std.proofs.Common.{◌≡◌, ◌≤◌, ℕ, ◌+◌, List, [], ◌∷◌, Bool, true, false, cond, Option, Some, None, refl, ap, ◌∙◌, arith}
use Rattle.std.specs.Prelude.{◌==◌}
use Rattle.std.specs.BTreeMap.{is_at, insert_entry}
use Rattle.std.specs.List.{AllByRecursion}
use Rattle.std.specs.List.Sorted.{IsStrictlySortedBy}
use Rattle.std.specs.Map.{keys_of, remove_entry}
use Rattle.std.specs.Ordering.{is_eq, match_ordering}
use Rattle.std.specs.declared.cmp.Ordering.{Ordering}
use Rattle.std.specs.declared.cmp.Ordering.TheVariants.{Less, Equal, Greater}
use Rattle.std.proofs.lemmas.List.Sums.{sum_by-cons}
use Rattle.std.proofs.lemmas.Map.{lookup-none}
use Rattle.std.proofs.lemmas.Map.Entries.{none_below_head}
use Rattle.ode_value.specs.declared.key.Key.{Key}
use Rattle.ode_value.specs.Keys.{key_cmp}
use Rattle.ode_value.specs.Records.{Row}
use Rattle.ode_keep.specs.Entries.{Changes, Entries, HasRisingKeys, applied, changed, count_of_kind, record_bytes, value_under}
use Rattle.ode_keep.specs.Growth.{one_of_kind, put_of_kind, taken_of_kind}
use Rattle.ode_keep.proofs.Applying.{changed_at, changed_rising, taken_out}
use Rattle.ode_keep.proofs.Keys.{key_total, same_key}

module _ (kind : ℕ) where
  -- a record, by its key alone
  abbrev one : Key → ℕ
  one k = cond (k.kind == kind) 1 0

  one_more : (e : Row) (es : Entries) → count_of_kind kind (e ∷ es) ≡ one e.0 + count_of_kind kind es
  one_more e es = sum_by-cons (λ (r : Row). one r.0) e es

  put_at : (k : Key) (v : List ℕ) (e : Row) (es rest : Entries) (found : Option (List ℕ)) → (r : Ordering) → (r ≡ Less → found ≡ None) → (is_eq r ≡ true → e.0 ≡ k)
      → count_of_kind kind rest + one_of_kind kind k found ≡ count_of_kind kind es + one k
      → count_of_kind kind (match_ordering r ((k, v) ∷ e ∷ es) ((e.0, v) ∷ es) (e ∷ rest)) + one_of_kind kind k (cond (is_eq r) (Some e.1) found) ≡ count_of_kind kind (e ∷ es) + one k
  put_at k v e es rest found Less none same more = omega (arith, one_more (k, v) (e ∷ es), ap (λ (o : Option (List ℕ)). one_of_kind kind k o) (none refl))
  put_at k v e es rest found Equal none same more = omega (arith, one_more (e.0, v) es, one_more e es, ap one (same refl))
  put_at k v e es rest found Greater none same more = omega (arith, one_more e rest, one_more e es, more)

  -- a value that is put is one more, and the one that stood under its key is one less
  pub put_counts : (entries : Entries) (k : Key) (v : List ℕ) → HasRisingKeys entries
      → count_of_kind kind (insert_entry key_cmp entries k v) + one_of_kind kind k (value_under entries k) ≡ count_of_kind kind entries + one k
  unfolding IsStrictlySortedBy
  put_counts [] k v rising = omega (arith, one_more (k, v) [])
  put_counts (e ∷ es) k v rising =
      put_at k v e es (insert_entry key_cmp es k v) (value_under es k) (key_cmp k e.0)
      (λ h. lookup-none (is_at (key_cmp k)) es (none_below_head key_total k e es rising h).1)
      (same_key k e.0)
      (put_counts es k v rising.1)

  removed_at : (k : Key) (e : Row) (es rest : Entries) (found : Option (List ℕ)) (b : Bool) → (b ≡ true → e.0 ≡ k)
      → count_of_kind kind rest + one_of_kind kind k found ≡ count_of_kind kind es
      → count_of_kind kind (cond b es (e ∷ rest)) + one_of_kind kind k (cond b (Some e.1) found) ≡ count_of_kind kind (e ∷ es)
  removed_at k e es rest found true same more = omega (arith, one_more e es, ap one (same refl))
  removed_at k e es rest found false same more = omega (arith, one_more e rest, one_more e es, more)

  -- a record that is taken out is one less
  pub removed_counts : (entries : Entries) (k : Key) → count_of_kind kind (remove_entry (is_at (key_cmp k)) entries) + one_of_kind kind k (value_under entries k) ≡ count_of_kind kind entries
  removed_counts [] k = refl
  removed_counts (e ∷ es) k = removed_at k e es (remove_entry (is_at (key_cmp k)) es) (value_under es k) (is_at (key_cmp k) e.0) (same_key k e.0) (removed_counts es k)

  -- one change adds the record that it puts, and takes away the one that stood there
  changed_counts : (entries : Entries) (k : Key) (w : Option (List ℕ)) → HasRisingKeys entries
      → count_of_kind kind (changed entries k w) + one_of_kind kind k (value_under entries k) ≡ count_of_kind kind entries + one_of_kind kind k w
  changed_counts entries k None rising = omega (arith, ap (λ (l : Entries). count_of_kind kind l) (taken_out entries k rising), removed_counts entries k)
  changed_counts entries k (Some v) rising = put_counts entries k v rising

  same_taken : (k : Key) (w : Option (List ℕ)) (cs : Changes) (entries : Entries) → AllByRecursion (λ q. key_cmp k q ≡ Less) (keys_of cs) → taken_of_kind kind cs (changed entries k w) ≡ taken_of_kind kind cs entries
  same_taken k w [] entries above = refl
  same_taken k w (c ∷ cs) entries above =
      let apart : is_at (key_cmp k) c.0 ≡ _ = ap is_eq above.0 in
      let here : value_under (changed entries k w) c.0 ≡ value_under entries c.0 = changed_at entries k w c.0 ∙ ap (λ b. cond b w (value_under entries c.0)) apart in
      omega (arith, ap (λ (o : Option (List ℕ)). one_of_kind kind c.0 o) here, same_taken k w cs entries above.1)

  -- changes add the records that they put, and take away those that stood under their keys
  pub applied_counts : (cs : Changes) (entries : Entries) → HasRisingKeys cs → HasRisingKeys entries
      → count_of_kind kind (applied cs entries) + taken_of_kind kind cs entries ≡ count_of_kind kind entries + put_of_kind kind cs
  unfolding IsStrictlySortedBy
  applied_counts [] entries changes rising = refl
  applied_counts (c ∷ cs) entries changes rising =
      omega (arith, applied_counts cs (changed entries c.0 c.1) changes.1 (changed_rising entries c.0 c.1 rising), changed_counts entries c.0 c.1 rising, same_taken c.0 c.1 cs entries changes.0)

  -- what stood under the keys of changes is among the records
  pub taken_among : (cs : Changes) (entries : Entries) → HasRisingKeys cs → HasRisingKeys entries → taken_of_kind kind cs entries ≤ count_of_kind kind entries
  unfolding IsStrictlySortedBy
  taken_among [] entries changes rising = omega arith
  taken_among (c ∷ cs) entries changes rising =
      omega (arith, taken_among cs (changed entries c.0 None) changes.1 (changed_rising entries c.0 None rising), changed_counts entries c.0 None rising, same_taken c.0 None cs entries changes.0)

  pub at_most_one : (b : Bool) → cond b 1 0 ≤ 1
  at_most_one true = omega arith
  at_most_one false = omega arith

  -- each record counts a byte at least
  pub count_within : (entries : Entries) → count_of_kind kind entries ≤ record_bytes entries
  count_within [] = omega arith
  count_within (e ∷ es) = omega (arith, one_more e es, at_most_one (e.0.kind == kind), count_within es)
