-- By how much changes make records grow.
use Rattle.std.proofs.Common.{◌≡◌, ℕ, ◌+◌, List, [], ◌∷◌, Bool, true, false, cond, length, Option, Some, None, refl, ap, ◌∙◌, arith}
use Rattle.std.specs.BTreeMap.{is_at, insert_entry}
use Rattle.std.specs.List.{AllByRecursion}
use Rattle.std.specs.List.Sorted.{IsStrictlySortedBy}
use Rattle.std.specs.Map.{lookup, keys_of, remove_entry}
use Rattle.std.specs.Ordering.{is_eq, match_ordering}
use Rattle.std.specs.declared.cmp.Ordering.{Ordering}
use Rattle.std.specs.declared.cmp.Ordering.TheVariants.{Less, Equal, Greater}
use Rattle.std.proofs.lemmas.Map.{lookup-none}
use Rattle.std.proofs.lemmas.Map.Entries.{none_below_head}
use Rattle.ode_value.specs.declared.key.Key.{Key}
use Rattle.ode_value.specs.Records.{Row}
use Rattle.ode_keep.specs.Entries.{Changes, Entries, HasRisingKeys, applied, changed, record_bytes, value_under}
use Rattle.ode_value.specs.Keys.{key_cmp}
use Rattle.ode_keep.specs.Growth.{bytes_of, put_bytes, taken_bytes}
use Rattle.ode_keep.proofs.Keys.{key_total}
use Rattle.ode_keep.proofs.Applying.{changed_at, changed_rising, taken_out}
use Rattle.ode_keep.specs.declared.spelling.TheConstants.{KEY_LEN}

put_grows_at : (k : Key) (v : List ℕ) (e : Row) (es rest : Entries) → (r : Ordering) → (r ≡ Less → value_under es k ≡ None) → record_bytes rest + bytes_of (value_under es k) ≡ record_bytes es + (KEY_LEN + length v)
    → record_bytes (match_ordering r ((k, v) ∷ e ∷ es) ((e.0, v) ∷ es) (e ∷ rest)) + bytes_of (cond (is_eq r) (Some e.1) (value_under es k)) ≡ record_bytes (e ∷ es) + (KEY_LEN + length v)
put_grows_at k v e es rest Less none more = omega (arith, ap bytes_of (none refl))
put_grows_at k v e es rest Equal none more = omega arith
put_grows_at k v e es rest Greater none more = omega (arith, more)

pub put_grows : (entries : Entries) (k : Key) (v : List ℕ) → HasRisingKeys entries → record_bytes (insert_entry key_cmp entries k v) + bytes_of (value_under entries k) ≡ record_bytes entries + (KEY_LEN + length v)
unfolding IsStrictlySortedBy
put_grows [] k v rising = omega arith
put_grows (e ∷ es) k v rising =
    put_grows_at k v e es (insert_entry key_cmp es k v) (key_cmp k e.0)
    (λ h. lookup-none (is_at (key_cmp k)) es (none_below_head key_total k e es rising h).1)
    (put_grows es k v rising.1)

removed_at : (e : Row) (es rest : Entries) (found : Option (List ℕ)) (b : Bool) → record_bytes rest + bytes_of found ≡ record_bytes es → record_bytes (cond b es (e ∷ rest)) + bytes_of (cond b (Some e.1) found) ≡ record_bytes (e ∷ es)
removed_at e es rest found true more = omega arith
removed_at e es rest found false more = omega (arith, more)

pub removed_shrinks : (test : Key → Bool) (entries : Entries) → record_bytes (remove_entry test entries) + bytes_of (lookup test entries) ≡ record_bytes entries
removed_shrinks test [] = refl
removed_shrinks test (e ∷ es) = removed_at e es (remove_entry test es) (lookup test es) (test e.0) (removed_shrinks test es)

-- one change adds the record that it puts, and takes away the one that stood there
pub changed_grows : (entries : Entries) (k : Key) (w : Option (List ℕ)) → HasRisingKeys entries → record_bytes (changed entries k w) + bytes_of (value_under entries k) ≡ record_bytes entries + bytes_of w
changed_grows entries k None rising = omega (arith, ap record_bytes (taken_out entries k rising), removed_shrinks (is_at (key_cmp k)) entries)
changed_grows entries k (Some v) rising = put_grows entries k v rising

same_taken : (k : Key) (w : Option (List ℕ)) (cs : Changes) (entries : Entries) → AllByRecursion (λ q. key_cmp k q ≡ Less) (keys_of cs) → taken_bytes cs (changed entries k w) ≡ taken_bytes cs entries
same_taken k w [] entries above = refl
same_taken k w (c ∷ cs) entries above =
    let apart : is_at (key_cmp k) c.0 ≡ _ = ap is_eq above.0 in
    let here : value_under (changed entries k w) c.0 ≡ value_under entries c.0 = changed_at entries k w c.0 ∙ ap (λ b. cond b w (value_under entries c.0)) apart in
    omega (arith, ap bytes_of here, same_taken k w cs entries above.1)

-- changes add the records that they put, and take away those that stood under their keys
pub applied_grows : (cs : Changes) (entries : Entries) → HasRisingKeys cs → HasRisingKeys entries → record_bytes (applied cs entries) + taken_bytes cs entries ≡ record_bytes entries + put_bytes cs
unfolding IsStrictlySortedBy
applied_grows [] entries changes rising = refl
applied_grows (c ∷ cs) entries changes rising =
    omega (arith, applied_grows cs (changed entries c.0 c.1) changes.1 (changed_rising entries c.0 c.1 rising), changed_grows entries c.0 c.1 rising, same_taken c.0 c.1 cs entries changes.0)
