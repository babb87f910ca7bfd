-- Entries in front of a key, with the key, and behind it.
use Rattle.std.proofs.Common.{◌≡◌, ℕ, ◌+◌, ◌*◌, ◌≤◌, List, [], ◌∷◌, ◌++◌, length, length-append, Bool, true, cond, Option, Some, None, refl, sym, ap, ◌∙◌, arith}
use Rattle.std.specs.BTreeMap.{is_at, insert_entry}
use Rattle.std.specs.List.Sorted.{IsStrictlySortedBy}
use Rattle.std.specs.Map.{remove_entry}
use Rattle.std.specs.Ordering.{is_eq, match_ordering}
use Rattle.std.specs.declared.cmp.Ordering.{Ordering}
use Rattle.std.specs.declared.cmp.Ordering.TheVariants.{Less, Equal, Greater}
use Rattle.std.proofs.lemmas.Map.{NonePasses, lookup-none}
use Rattle.std.proofs.lemmas.Map.Entries.{none_below_head}
use Rattle.ode_value.specs.declared.key.Key.{Key}
use Rattle.ode_value.specs.Keys.{key_cmp}
use Rattle.ode_value.specs.Records.{Row}
use Rattle.ode_keep.specs.Entries.{Entries, HasRisingKeys, changed, value_under}
use Rattle.ode_keep.proofs.Applying.{taken_out}
use Rattle.ode_keep.proofs.Keys.{key_total, same_key}
use Rattle.ode_pages.specs.Pages.{entries_need, entry_need, need_of}
use Rattle.ode_keep.specs.declared.spelling.TheConstants.{ROW_HEAD}
use Rattle.ode_pages.specs.Parts.{above, at_key, below}
use Rattle.ode_pages.specs.declared.layout.TheConstants.{COUNT_LEN}

-- how many entries have the key
abbrev pub count_of : Option (List ℕ) → ℕ
count_of None = 0
count_of (Some v) = 1

pub need-append : (es fs : Entries) → entries_need (es ++ fs) ≡ entries_need es + entries_need fs
need-append [] fs = omega arith
need-append (e ∷ es) fs = omega (arith, need-append es fs)

-- each entry needs its key and the length of its value at least
pub each_needs : (es : Entries) → ROW_HEAD * length es ≤ entries_need es
each_needs [] = omega arith
each_needs (e ∷ es) = omega (arith, each_needs es)

-- the start of what is left of all entries, where the others are in front of a key
pub record IsPast (k : Key) (all rest : Entries) (start : ℕ) : Type 0 where
  pub need : start + entries_need rest ≡ COUNT_LEN + entries_need all
  pub front : start + entries_need (below rest k) ≡ COUNT_LEN + entries_need (below all k)
  pub same : at_key rest k ≡ at_key all k

module _ (k : Key) where
  parts_at : (e : Row) (es front with behind : Entries) → es ≡ front ++ (with ++ behind) → (r : Ordering)
      → e ∷ es ≡ match_ordering r [] [] (e ∷ front) ++ (match_ordering r [] (e ∷ []) with ++ match_ordering r (e ∷ es) es behind)
  parts_at e es front with behind more Less = refl
  parts_at e es front with behind more Equal = refl
  parts_at e es front with behind more Greater = ap (λ (l : Entries). e ∷ l) more

  pub parts : (es : Entries) → es ≡ below es k ++ (at_key es k ++ above es k)
  parts [] = refl
  parts (e ∷ es) = parts_at e es (below es k) (at_key es k) (above es k) (parts es) (key_cmp k e.0)

  put_at : (v : List ℕ) (e : Row) (es rest front behind : Entries) → rest ≡ front ++ (k, v) ∷ behind → (r : Ordering) → (is_eq r ≡ true → e.0 ≡ k)
      → match_ordering r ((k, v) ∷ e ∷ es) ((e.0, v) ∷ es) (e ∷ rest) ≡ match_ordering r [] [] (e ∷ front) ++ (k, v) ∷ match_ordering r (e ∷ es) es behind
  put_at v e es rest front behind more Less same = refl
  put_at v e es rest front behind more Equal same = ap (λ (q : Key). (q, v) ∷ es) (same refl)
  put_at v e es rest front behind more Greater same = ap (λ (l : Entries). e ∷ l) more

  -- a value that is put stands between those in front and those behind
  pub put_parts : (es : Entries) (v : List ℕ) → changed es k (Some v) ≡ below es k ++ (k, v) ∷ above es k
  put_parts [] v = refl
  put_parts (e ∷ es) v = put_at v e es (insert_entry key_cmp es k v) (below es k) (above es k) (put_parts es v) (key_cmp k e.0) (same_key k e.0)

  none_removed : (es : Entries) → NonePasses (is_at (key_cmp k)) es → remove_entry (is_at (key_cmp k)) es ≡ es
  none_removed [] none = refl
  none_removed (e ∷ es) none =
      ap (λ (b : Bool). cond b es (e ∷ remove_entry (is_at (key_cmp k)) es)) none.0 ∙ ap (λ (l : Entries). e ∷ l) (none_removed es none.1)

  removed_at : (e : Row) (es rest front behind : Entries) → rest ≡ front ++ behind → (r : Ordering) → (r ≡ Less → rest ≡ es)
      → cond (is_eq r) es (e ∷ rest) ≡ match_ordering r [] [] (e ∷ front) ++ match_ordering r (e ∷ es) es behind
  removed_at e es rest front behind more Less none = ap (λ (l : Entries). e ∷ l) (none refl)
  removed_at e es rest front behind more Equal none = refl
  removed_at e es rest front behind more Greater none = ap (λ (l : Entries). e ∷ l) more

  without : (es : Entries) → HasRisingKeys es → remove_entry (is_at (key_cmp k)) es ≡ below es k ++ above es k
  unfolding IsStrictlySortedBy
  without [] rising = refl
  without (e ∷ es) rising =
      removed_at e es (remove_entry (is_at (key_cmp k)) es) (below es k) (above es k) (without es rising.1) (key_cmp k e.0)
      (λ h. none_removed es (none_below_head key_total k e es rising h).1)

  -- without the key those in front and those behind are left
  pub removed_parts : (es : Entries) → HasRisingKeys es → changed es k None ≡ below es k ++ above es k
  removed_parts es rising = taken_out es k rising ∙ without es rising

  none_there : (e : Row) (es : Entries) → HasRisingKeys (e ∷ es) → key_cmp k e.0 ≡ Less → value_under es k ≡ None
  none_there e es rising h = lookup-none (is_at (key_cmp k)) es (none_below_head key_total k e es rising h).1

  need_at : (e : Row) (with : Entries) (found : Option (List ℕ)) → entries_need with ≡ need_of found → (r : Ordering) → (r ≡ Less → found ≡ None)
      → entries_need (match_ordering r [] (e ∷ []) with) ≡ need_of (cond (is_eq r) (Some e.1) found)
  need_at e with found more Less none = sym (ap need_of (none refl))
  need_at e with found more Equal none = omega arith
  need_at e with found more Greater none = more

  -- the entry with the key needs what its value needs
  pub need_under : (es : Entries) → HasRisingKeys es → entries_need (at_key es k) ≡ need_of (value_under es k)
  unfolding IsStrictlySortedBy
  need_under [] rising = refl
  need_under (e ∷ es) rising = need_at e (at_key es k) (value_under es k) (need_under es rising.1) (key_cmp k e.0) (none_there e es rising)

  count_at : (e : Row) (with : Entries) (found : Option (List ℕ)) → length with ≡ count_of found → (r : Ordering) → (r ≡ Less → found ≡ None)
      → length (match_ordering r [] (e ∷ []) with) ≡ count_of (cond (is_eq r) (Some e.1) found)
  count_at e with found more Less none = sym (ap count_of (none refl))
  count_at e with found more Equal none = refl
  count_at e with found more Greater none = more

  -- one entry has it where there is a value under it, and none where there is none
  pub count_under : (es : Entries) → HasRisingKeys es → length (at_key es k) ≡ count_of (value_under es k)
  unfolding IsStrictlySortedBy
  count_under [] rising = refl
  count_under (e ∷ es) rising = count_at e (at_key es k) (value_under es k) (count_under es rising.1) (key_cmp k e.0) (none_there e es rising)

  pub needs : (es : Entries) → entries_need es ≡ entries_need (below es k) + (entries_need (at_key es k) + entries_need (above es k))
  needs es =
      ap entries_need (parts es) ∙ need-append (below es k) (at_key es k ++ above es k)
      ∙ ap (λ (n : ℕ). entries_need (below es k) + n) (need-append (at_key es k) (above es k))

  pub lengths : (es : Entries) → length es ≡ length (below es k) + (length (at_key es k) + length (above es k))
  lengths es = omega (arith, ap (λ (l : Entries). length l) (parts es), length-append (below es k) (at_key es k ++ above es k), length-append (at_key es k) (above es k))

  -- a value that is put is one entry more, and the old one with its key one less
  pub length_put : (es : Entries) (v : List ℕ) → length (changed es k (Some v)) + length (at_key es k) ≡ length es + 1
  length_put es v = omega (arith, lengths es, ap (λ (l : Entries). length l) (put_parts es v), length-append (below es k) ((k, v) ∷ above es k))

  pub length_removed : (es : Entries) → HasRisingKeys es → length (changed es k None) + length (at_key es k) ≡ length es
  length_removed es rising = omega (arith, lengths es, ap (λ (l : Entries). length l) (removed_parts es rising), length-append (below es k) (above es k))

  pub need_put : (es : Entries) (v : List ℕ) → entries_need (changed es k (Some v)) + entries_need (at_key es k) ≡ entries_need es + entry_need v
  need_put es v = omega (arith, needs es, ap entries_need (put_parts es v), need-append (below es k) ((k, v) ∷ above es k))

  pub need_removed : (es : Entries) → HasRisingKeys es → entries_need (changed es k None) + entries_need (at_key es k) ≡ entries_need es
  need_removed es rising = omega (arith, needs es, ap entries_need (removed_parts es rising), need-append (below es k) (above es k))
