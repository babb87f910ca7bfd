-- What changes leave under each key, and that the keys still rise.
use Rattle.std.proofs.Common.{◌≡◌, ℕ, List, [], ◌∷◌, Bool, true, false, cond, Option, Some, None, refl, sym, ap, ◌∙◌}
use Rattle.std.specs.Prelude.{not}
use Rattle.std.specs.Option.{unwrap_or}
use Rattle.std.specs.BTreeMap.{is_at, insert_entry}
use Rattle.std.specs.List.{IsDistinct}
use Rattle.std.specs.Map.{lookup, keys_of, remove_entry}
use Rattle.std.specs.Ordering.{eq_by_cmp}
use Rattle.std.proofs.lemmas.Cmp.{eq_by_cmp_equiv}
use Rattle.std.proofs.lemmas.Map.{lookup-none}
use Rattle.std.proofs.lemmas.Map.Entries.{none_past_head, lookup-filter-keys}
use Rattle.std.proofs.lemmas.Map.Keys.{IsDistinct-tail}
use Rattle.ode_value.specs.declared.key.Key.{Key}
use Rattle.ode_keep.specs.Entries.{Changes, Entries, HasRisingKeys, applied, changed, value_under}
use Rattle.ode_value.specs.Keys.{key_cmp}
use Rattle.ode_keep.proofs.Keys.{key_total, same_key, distinct_keys}
use Rattle.ode_keep.proofs.Maps.{back, lookup_put, one_gone, rising_put, rising_some}

turned : (b : Bool) (found : Option (List ℕ)) → cond (not b) found None ≡ cond b None found
turned true found = refl
turned false found = refl

-- one change leaves its own under its key, and all else as it was
pub changed_at : (entries : Entries) (k : Key) (w : Option (List ℕ)) (q : Key) → value_under (changed entries k w) q ≡ cond (is_at (key_cmp k) q) w (value_under entries q)
changed_at entries k None q =
    lookup-filter-keys (is_at (key_cmp q)) (λ l. not (is_at (key_cmp k) l)) (not (is_at (key_cmp k) q)) (λ l h. ap (λ m. not (is_at (key_cmp k) m)) (same_key q l h)) entries
    ∙ turned (is_at (key_cmp k) q) (value_under entries q)
changed_at entries k (Some v) q = lookup_put key_total k v q entries

none_later : (q : Key) (c : Key × Option (List ℕ)) (cs : Changes) → IsDistinct (eq_by_cmp key_cmp) (keys_of (c ∷ cs)) → is_at (key_cmp q) c.0 ≡ true → lookup (is_at (key_cmp q)) cs ≡ None
none_later q c cs d h = lookup-none (is_at (key_cmp q)) cs (none_past_head (eq_by_cmp_equiv key_total) q c cs d h)

one_more : (b c : Bool) → b ≡ c → (rest : Option (Option (List ℕ))) (w found : Option (List ℕ)) → (c ≡ true → rest ≡ None) → unwrap_or rest (cond b w found) ≡ unwrap_or (cond c (Some w) rest) found
one_more true true e rest w found none = ap (λ r. unwrap_or r w) (none refl)
one_more false false e rest w found none = refl
one_more true false e rest w found none = absurd (cc)
one_more false true e rest w found none = absurd (cc)

applied_distinct : (q : Key) (cs : Changes) (entries : Entries) → IsDistinct (eq_by_cmp key_cmp) (keys_of cs) → value_under (applied cs entries) q ≡ unwrap_or (lookup (is_at (key_cmp q)) cs) (value_under entries q)
applied_distinct q [] entries d = refl
applied_distinct q (c ∷ cs) entries d =
    applied_distinct q cs (changed entries c.0 c.1) (IsDistinct-tail (eq_by_cmp key_cmp) c.0 (keys_of cs) d)
    ∙ ap (unwrap_or (lookup (is_at (key_cmp q)) cs)) (changed_at entries c.0 c.1 q)
    ∙ one_more (is_at (key_cmp c.0) q) (is_at (key_cmp q) c.0) (back key_total c.0 q) (lookup (is_at (key_cmp q)) cs) c.1 (value_under entries q) (none_later q c cs d)

-- changes leave their own under their keys, and all else as it was
pub applied_at : (q : Key) (cs : Changes) (entries : Entries) → HasRisingKeys cs → value_under (applied cs entries) q ≡ unwrap_or (lookup (is_at (key_cmp q)) cs) (value_under entries q)
applied_at q cs entries rising = applied_distinct q cs entries (distinct_keys cs rising)

pub changed_rising : (entries : Entries) (k : Key) (w : Option (List ℕ)) → HasRisingKeys entries → HasRisingKeys (changed entries k w)
changed_rising entries k None rising = rising_some key_cmp (λ e. not (is_at (key_cmp k) e.0)) entries rising
changed_rising entries k (Some v) rising = rising_put key_total k v entries rising

pub applied_rising : (cs : Changes) (entries : Entries) → HasRisingKeys entries → HasRisingKeys (applied cs entries)
applied_rising [] entries rising = rising
applied_rising (c ∷ cs) entries rising = applied_rising cs (changed entries c.0 c.1) (changed_rising entries c.0 c.1 rising)

-- a change without a value takes the record out, as an ordered map does
pub taken_out : (entries : Entries) (k : Key) → HasRisingKeys entries → changed entries k None ≡ remove_entry (is_at (key_cmp k)) entries
taken_out entries k rising = one_gone key_total k entries (distinct_keys entries rising)

over_all : (b : Bool) (w found : Option (List ℕ)) (was : Option (Option (List ℕ))) → unwrap_or (cond b (Some w) was) found ≡ cond b w (unwrap_or was found)
over_all true w found was = refl
over_all false w found was = refl

-- a change that is put into a batch counts under its key, and the batch's others count as they did
pub put_counts : (cs : Changes) (k : Key) (w : Option (List ℕ)) (entries : Entries) (q : Key) → HasRisingKeys cs
    → value_under (applied (insert_entry key_cmp cs k w) entries) q ≡ cond (is_at (key_cmp k) q) w (value_under (applied cs entries) q)
put_counts cs k w entries q rising =
    applied_at q (insert_entry key_cmp cs k w) entries (rising_put key_total k w cs rising)
    ∙ ap (λ found. unwrap_or found (value_under entries q)) (lookup_put key_total k w q cs)
    ∙ over_all (is_at (key_cmp k) q) w (value_under entries q) (lookup (is_at (key_cmp q)) cs)
    ∙ ap (λ found. cond (is_at (key_cmp k) q) w found) (sym (applied_at q cs entries rising))
