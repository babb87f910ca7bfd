-- The first key and the first record from a key on.
use Rattle.std.proofs.Common.{◌≡◌, ℕ, List, [], ◌∷◌, Bool, true, false, cond, Option, Some, None, refl, sym, ap, subst, ◌∙◌}
use Rattle.std.specs.Prelude.{◌&&◌, not}
use Rattle.std.specs.BTreeMap.{is_at}
use Rattle.std.specs.List.{filter, find, slice_get}
use Rattle.std.specs.Map.{keys_of}
use Rattle.std.specs.Option.{IfSome, option_map}
use Rattle.std.specs.Ordering.{is_eq, is_le}
use Rattle.std.proofs.lemmas.Cmp.{tied_itself}
use Rattle.ode_value.specs.declared.key.Key.{Key}
use Rattle.ode_value.specs.Keys.{key_cmp}
use Rattle.ode_value.specs.Records.{Row}
use Rattle.ode_keep.specs.Entries.{Entries, StartsOf, entries_from, least_from, value_under}
use Rattle.ode_keep.proofs.Keys.{key_total, same_key}
use Rattle.ode_paging.specs.Indexing.{Leads, lead_from, leads_from}

module _ {X : Type 0} (p : Key → Bool) where
  first_at : (b : Bool) (e : Key × X) (found : Option (Key × X)) (first : Option Key) → option_map (λ e. e.0) found ≡ first → option_map (λ e. e.0) (cond b (Some e) found) ≡ cond b (Some e.0) first
  first_at true e found first more = refl
  first_at false e found first more = more

  -- the first that passes, by the keys alone
  first_key : (es : List (Key × X)) → option_map (λ e. e.0) (find (λ e. p e.0) es) ≡ find p (keys_of es)
  first_key [] = refl
  first_key (e ∷ es) = first_at (p e.0) e (find (λ e. p e.0) es) (find p (keys_of es)) (first_key es)

  passes_at : (e : Key × X) (found : Option (Key × X)) (b : Bool) → p e.0 ≡ b → IfSome found (λ e. p e.0 ≡ true) → IfSome (cond b (Some e) found) (λ e. p e.0 ≡ true)
  passes_at e found true is more = is
  passes_at e found false is more = more

  passes : (es : List (Key × X)) → IfSome (find (λ e. p e.0) es) (λ e. p e.0 ≡ true)
  passes [] = tt
  passes (e ∷ es) = passes_at e (find (λ e. p e.0) es) (p e.0) refl (passes es)

-- what an index leads to first is the least key of records that have its keys
pub first_least : (leads : Leads) (entries : Entries) (k : Key) (found : Option (Key × ℕ)) → keys_of leads ≡ keys_of entries → found ≡ lead_from leads k → option_map (λ e. e.0) found ≡ least_from entries k
first_least leads entries k found same is =
    ap (option_map (λ e. e.0)) is ∙ first_key (λ q. is_le (key_cmp k q)) leads ∙ ap (find (λ q. is_le (key_cmp k q))) same

-- it isn't below the key
pub first_above : (leads : Leads) (k q : Key) (page : ℕ) → Some (q, page) ≡ lead_from leads k → is_le (key_cmp k q) ≡ true
first_above leads k q page is = subst (λ (o : Option (Key × ℕ)). IfSome o (λ e. is_le (key_cmp k e.0) ≡ true)) (sym is) (passes (λ q. is_le (key_cmp k q)) leads)

none_at : (b : Bool) (e : Row) (found : Option Key) (rest : Entries) → (found ≡ None → rest ≡ []) → cond b (Some e.0) found ≡ None → cond b (e ∷ rest) rest ≡ []
none_at true e found rest more none = absurd (cc (none))
none_at false e found rest more none = more none

-- where there is no key from one on, there are no records
pub no_rows : (entries : Entries) (k : Key) → least_from entries k ≡ None → entries_from entries k ≡ []
no_rows [] k none = refl
no_rows (e ∷ es) k none = none_at (is_le (key_cmp k e.0)) e (least_from es k) (entries_from es k) (no_rows es k) none

module _ (k q : Key) (v : List ℕ) (above : is_le (key_cmp k q) ≡ true) where
  row_at : (e : Row) (es : Entries) → (least_from es k ≡ Some q → value_under es q ≡ Some v → StartsOf ((q, v) ∷ []) (entries_from es k))
      → (b : Bool) → is_le (key_cmp k e.0) ≡ b → (d : Bool) → is_at (key_cmp q) e.0 ≡ d → cond b (Some e.0) (least_from es k) ≡ Some q → cond d (Some e.1) (value_under es q) ≡ Some v
      → StartsOf ((q, v) ∷ []) (cond b (e ∷ entries_from es k) (entries_from es k))
  row_at e es more true le true at least value =
      let key : e.0 ≡ q = cc (least) in
      let stands : e.1 ≡ v = cc (value) in
      (entries_from es k, λ i. (key i, stands i) ∷ entries_from es k)
  row_at e es more true le false at least value =
      let key : e.0 ≡ q = cc (least) in
      let itself : is_at (key_cmp q) q ≡ true = ap is_eq (tied_itself key_total q) in
      absurd (cc (at, itself, ap (is_at (key_cmp q)) key))
  row_at e es more false le true at least value = absurd (cc (le, above, ap (λ (r : Key). is_le (key_cmp k r)) (same_key q e.0 at)))
  row_at e es more false le false at least value = more least value

  -- the record with the least key from one on is the first from there on
  pub first_row : (entries : Entries) → least_from entries k ≡ Some q → value_under entries q ≡ Some v → StartsOf ((q, v) ∷ []) (entries_from entries k)
  first_row [] least value = absurd (cc (least))
  first_row (e ∷ es) least value = row_at e es (first_row es) (is_le (key_cmp k e.0)) refl (is_at (key_cmp q) e.0) refl least value

-- ---- what a range of an index has first

and_true : (b : Bool) → (b && not false) ≡ b
and_true true = refl
and_true false = refl

find_at : (b : Bool) (e : Key × ℕ) (found : Option (Key × ℕ)) (rest : Leads) → slice_get rest 0 ≡ found → slice_get (cond b (e ∷ rest) rest) 0 ≡ cond b (Some e) found
find_at true e found rest more = refl
find_at false e found rest more = more

pub found_first : (leads : Leads) (k : Key) → slice_get (filter (λ e. is_le (key_cmp k e.0)) leads) 0 ≡ lead_from leads k
found_first [] k = refl
found_first (e ∷ es) k = find_at (is_le (key_cmp k e.0)) e (lead_from es k) (filter (λ e. is_le (key_cmp k e.0)) es) (found_first es k)

-- a range from a key on has the leads from there on
pub range_leads : (leads range : Leads) (k : Key) → range ≡ filter (λ e. is_le (key_cmp k e.0) && not false) leads → range ≡ leads_from leads k
range_leads leads range k is = is ∙ ap (λ (p : Key × ℕ → Bool). filter p leads) (λ i e. and_true (is_le (key_cmp k e.0)) i)

-- its first item is the first lead
pub range_first : (leads range : Leads) (k : Key) → range ≡ filter (λ e. is_le (key_cmp k e.0) && not false) leads → slice_get range 0 ≡ lead_from leads k
range_first leads range k is =
    ap (λ (l : Leads). slice_get l 0) (range_leads leads range k is) ∙ found_first leads k
