-- A batch makes what its puts and then its removals make, and a put can be undone.
use Rattle.std.proofs.Common.{◌≡◌, ◌≤◌, ℕ, suc, ◌+◌, ◌*◌, List, [], ◌∷◌, ◌++◌, reverse, Bool, true, false, cond, length, Option, Some, None, refl, sym, ap, ◌∙◌, subst, arith}
use Rattle.std.specs.Prelude.{not, is_some, IsSome}
use Rattle.std.specs.BTreeMap.{is_at, insert_entry}
use Rattle.std.specs.List.{AllByRecursion}
use Rattle.std.specs.List.Sorted.{IsStrictlySortedBy}
use Rattle.std.specs.Map.{lookup, keys_of}
use Rattle.std.specs.Option.{IfSome, unwrap_or}
use Rattle.std.specs.Ordering.{is_eq}
use Rattle.std.proofs.lemmas.Cmp.{eq_by_cmp_equiv, tied_itself}
use Rattle.std.proofs.lemmas.List.{reverse-append}
use Rattle.std.proofs.lemmas.Map.Entries.{option_filter, lookup-filter-values}
use Rattle.ode_value.specs.declared.key.Key.{Key}
use Rattle.ode_keep.specs.Entries.{Changes, Entries, HasRisingKeys, applied, changed, record_bytes, value_under}
use Rattle.ode_value.specs.Keys.{key_cmp}
use Rattle.ode_keep.specs.Growth.{bytes_of, put_bytes, taken_bytes}
use Rattle.ode_keep.proofs.Applying.{applied_at, applied_rising, changed_at, changed_rising}
use Rattle.ode_keep.proofs.Growing.{applied_grows, removed_shrinks}
use Rattle.ode_keep.proofs.Keys.{distinct_keys, key_total, same_key}
use Rattle.ode_keep.proofs.Maps.{lookup_put, rising_put, rising_some}
use Rattle.ode_areas.specs.Puts.{LeadBack, NeedNoRoom, puts, removals}
use Rattle.ode_keep.proofs.Lengths.{IsShortChange}
use Rattle.ode_keep.proofs.SameMaps.{same_map}
use Rattle.ode_keep.specs.declared.limits.TheConstants.{MAX_CHANGES, MAX_GROWTH, MAX_VALUE}
use Rattle.ode_keep.specs.declared.spelling.TheConstants.{KEY_LEN}

one_of : (found : Option (Option (List ℕ))) (was : Option (List ℕ))
    → unwrap_or (option_filter (λ w. not (is_some w)) found) (unwrap_or (option_filter is_some found) was) ≡ unwrap_or found was
one_of None was = refl
one_of (Some None) was = refl
one_of (Some (Some v)) was = refl

module _ (cs : Changes) (es : Entries) (changes : HasRisingKeys cs) (rising : HasRisingKeys es) where
  put_rising : HasRisingKeys (puts cs)
  put_rising = rising_some key_cmp (λ c. is_some c.1) cs changes

  removal_rising : HasRisingKeys (removals cs)
  removal_rising = rising_some key_cmp (λ c. not (is_some c.1)) cs changes

  split_at : (q : Key) → value_under (applied (removals cs) (applied (puts cs) es)) q ≡ value_under (applied cs es) q
  split_at q =
      let removed : lookup (is_at (key_cmp q)) (removals cs) ≡ option_filter (λ w. not (is_some w)) (lookup (is_at (key_cmp q)) cs) =
      lookup-filter-values (eq_by_cmp_equiv key_total) (λ w. not (is_some w)) q cs (distinct_keys cs changes) in
      let put : lookup (is_at (key_cmp q)) (puts cs) ≡ option_filter is_some (lookup (is_at (key_cmp q)) cs) =
      lookup-filter-values (eq_by_cmp_equiv key_total) is_some q cs (distinct_keys cs changes) in
      applied_at q (removals cs) (applied (puts cs) es) removal_rising
      ∙ ap (unwrap_or (lookup (is_at (key_cmp q)) (removals cs))) (applied_at q (puts cs) es put_rising)
      ∙ (λ i. unwrap_or (removed i) (unwrap_or (put i) (value_under es q)))
      ∙ one_of (lookup (is_at (key_cmp q)) cs) (value_under es q)
      ∙ sym (applied_at q cs es changes)

  -- first the puts, and then the removals
  pub split_applied : applied (removals cs) (applied (puts cs) es) ≡ applied cs es
  split_applied =
      same_map (applied (removals cs) (applied (puts cs) es)) (applied cs es)
      (applied_rising (removals cs) (applied (puts cs) es) (applied_rising (puts cs) es rising)) (applied_rising cs es rising) split_at

some_there : (k : Key) (v : List ℕ) (es : Entries) → IsSome (value_under (insert_entry key_cmp es k v) k)
some_there k v es =
    ap is_some (lookup_put key_total k v k es ∙ ap (λ b. cond b (Some v) (value_under es k)) (ap is_eq (tied_itself key_total k)))

in_place : (k q : Key) (es : Entries) (v : List ℕ) (b : Bool) → is_at (key_cmp k) q ≡ b → cond b (value_under es k) (cond b (Some v) (value_under es q)) ≡ value_under es q
in_place k q es v true is = ap (value_under es) (sym (same_key k q is))
in_place k q es v false is = refl

-- what stood under a key, put back behind another value, gives the records as they were
pub put_undone : (k : Key) (v : List ℕ) (es : Entries) → HasRisingKeys es → changed (insert_entry key_cmp es k v) k (value_under es k) ≡ es
put_undone k v es rising =
    same_map (changed (insert_entry key_cmp es k v) k (value_under es k)) es
    (changed_rising (insert_entry key_cmp es k v) k (value_under es k) (rising_put key_total k v es rising)) rising
    (λ q.
    changed_at (insert_entry key_cmp es k v) k (value_under es k) q
    ∙ ap (cond (is_at (key_cmp k) q) (value_under es k)) (lookup_put key_total k v q es)
    ∙ in_place k q es v (is_at (key_cmp k) q) refl)

if_some : (P : Type 0) (o : Option (List ℕ)) → P → IfSome o (λ v. P)
if_some P None p = tt
if_some P (Some v) p = p

-- room that a note needs: none, where it undoes a put
pub needs_none : (k : Key) (v : List ℕ) (es : Entries) → IfSome (value_under es k) (λ w. IsSome (value_under (insert_entry key_cmp es k v) k))
needs_none k v es = if_some (IsSome (value_under (insert_entry key_cmp es k v) k)) (value_under es k) (some_there k v es)

-- one note more leads back as well
pub one_more_back : (k : Key) (v : List ℕ) (notes : Changes) (es old : Entries) → HasRisingKeys es → LeadBack notes es old
    → LeadBack ((k, value_under es k) ∷ notes) (insert_entry key_cmp es k v) old
one_more_back k v notes es old rising back = record {
  room = (needs_none k v es, subst (λ (l : Entries). NeedNoRoom notes l) (sym (put_undone k v es rising)) back.room);
  back = ap (applied notes) (put_undone k v es rising) ∙ back.back;
}

all_out : Changes → Changes
all_out [] = []
all_out (c ∷ cs) = (c.0, None) ∷ all_out cs

all_out_keys : (cs : Changes) → keys_of (all_out cs) ≡ keys_of cs
unfolding all_out
all_out_keys [] = refl
all_out_keys (c ∷ cs) = ap (λ l. c.0 ∷ l) (all_out_keys cs)

all_out_taken : (cs : Changes) (es : Entries) → taken_bytes (all_out cs) es ≡ taken_bytes cs es
unfolding all_out
all_out_taken [] es = refl
all_out_taken (c ∷ cs) es = ap (λ n. bytes_of (value_under es c.0) + n) (all_out_taken cs es)

all_out_put : (cs : Changes) → put_bytes (all_out cs) ≡ 0
unfolding all_out
all_out_put [] = refl
all_out_put (c ∷ cs) = omega (arith, all_out_put cs)

-- what stood under the keys of changes counts no more than all records
pub taken_within : (cs : Changes) (es : Entries) → HasRisingKeys cs → HasRisingKeys es → taken_bytes cs es ≤ record_bytes es
taken_within cs es changes rising =
    let same : HasRisingKeys (all_out cs) = subst (λ (ks : List Key). IsStrictlySortedBy key_cmp ks) (sym (all_out_keys cs)) changes in
    omega (arith, applied_grows (all_out cs) es same rising, all_out_taken cs es, all_out_put cs)

pub value_within : (k : Key) (es : Entries) → bytes_of (value_under es k) ≤ record_bytes es
value_within k es = omega (arith, removed_shrinks (is_at (key_cmp k)) es)

one_short : (w : Option (List ℕ)) (rest n : ℕ) → IfSome w (λ v. length v ≤ MAX_VALUE) → rest ≤ (KEY_LEN + MAX_VALUE) * n → bytes_of w + rest ≤ (KEY_LEN + MAX_VALUE) * suc n
one_short None rest n short more = omega arith
one_short (Some v) rest n short more = omega arith

-- how much a batch puts at most
pub put_short : (cs : Changes) → AllByRecursion IsShortChange cs → put_bytes cs ≤ (KEY_LEN + MAX_VALUE) * length cs
put_short [] short = omega arith
put_short (c ∷ cs) short =
    one_short c.1 (put_bytes cs) (length cs) short.0 (put_short cs short.1)

-- how much the records count at most behind a batch
pub grown_at_most : (cs : Changes) (es : Entries) → HasRisingKeys cs → HasRisingKeys es → AllByRecursion IsShortChange cs → length cs ≤ MAX_CHANGES
    → record_bytes (applied cs es) ≤ record_bytes es + MAX_GROWTH
grown_at_most cs es changes rising short few = omega (arith, applied_grows cs es changes rising, put_short cs short)

-- notes that grew by what stood under a key lead back still
pub led_one_more : (k : Key) (v : List ℕ) (notes now : Changes) (es new old : Entries) → HasRisingKeys es → now ≡ notes ++ (k, value_under es k) ∷ []
    → new ≡ insert_entry key_cmp es k v → LeadBack (reverse notes) es old → LeadBack (reverse now) new old
led_one_more k v notes now es new old rising more put back =
    let turned : reverse now ≡ (k, value_under es k) ∷ reverse notes = ap (λ (l : Changes). reverse l) more ∙ reverse-append notes ((k, value_under es k) ∷ []) in
    subst (λ (l : Changes). LeadBack l new old) (sym turned)
    (subst (λ (l : Entries). LeadBack ((k, value_under es k) ∷ reverse notes) l old) (sym put) (one_more_back k v (reverse notes) es old rising back))

-- and so they do where nothing was put
pub led_same : (notes now : Changes) (es new old : Entries) → now ≡ notes → new ≡ es → LeadBack (reverse notes) es old → LeadBack (reverse now) new old
led_same notes now es new old same_notes same back =
    subst (λ (l : Changes). LeadBack (reverse l) new old) (sym same_notes) (subst (λ (l : Entries). LeadBack (reverse notes) l old) (sym same) back)

-- the puts of a batch, and then its removals
pub made_all : (cs : Changes) (old mid new given : Entries) → HasRisingKeys cs → HasRisingKeys old → old ≡ given → mid ≡ applied (puts cs) old
    → new ≡ applied (removals cs) mid → new ≡ applied cs given
made_all cs old mid new given changes rising is first second =
    second ∙ ap (applied (removals cs)) first ∙ split_applied cs old changes rising ∙ ap (applied cs) is
