-- Records that follow one another, by their keys and their values.
use Rattle.std.proofs.Common.{◌≡◌, ℕ, List, [], ◌∷◌, ◌++◌, map, Bool, true, false, cond, nat_eq, ⊎_elim, Some, refl, sym, ap, subst, ◌∙◌, append_assoc}
use Rattle.std.proofs.lemmas.List.{append-nil}
use Rattle.std.specs.BTreeMap.{is_at}
use Rattle.std.specs.List.{AllByRecursion, filter, slice_get}
use Rattle.std.specs.List.Sorted.{IsStrictlySortedBy}
use Rattle.std.specs.Map.{keys_of, lookup}
use Rattle.std.specs.Ordering.{is_eq, is_le}
use Rattle.std.specs.declared.cmp.Ordering.TheVariants.{Less}
use Rattle.std.proofs.lemmas.Cmp.{tied_itself}
use Rattle.ode_host.specs.View.{View}
use Rattle.ode_value.specs.declared.key.Key.{Key}
use Rattle.ode_value.specs.Keys.{key_cmp}
use Rattle.ode_value.specs.Records.{Row}
use Rattle.ode_keep.specs.Entries.{Entries, HasRisingKeys, StartsOf, entries_from, value_under}
use Rattle.ode_keep.proofs.Keys.{key_total}
use Rattle.ode_keep.proofs.Lists.{all_push}
use Rattle.ode_keep.proofs.Maps.{back}
use Rattle.ode_paging.specs.Indexing.{Leads, lead_from, leads_from, page_under}
use Rattle.ode_paging.specs.OneMap.{gathered_rising}
use Rattle.ode_paging.proofs.Firsts.{found_first}
use Rattle.ode_pagemap.specs.declared.map.PageMap.{PageMap}
use Rattle.ode_pagemap.specs.Holding.{PagesHold, index}
use Rattle.ode_pagemap.specs.Running.{MayRunOn, Runs, RunsOn}
use Rattle.ode_pagemap.proofs.InPages.{held_stands, right_value, same_keys}

-- ---- the steps of a run

-- before the first
pub runs_none : (number : ℕ) (page : Entries) (leads : Leads) (old : Entries) → Runs number page leads old old leads
runs_none number page leads old = record { more = []; rows = sym (append-nil old); leads_are = refl; values = tt }

map_push : (number : ℕ) (more : Entries) (e : Row) (rest : Leads) → map (λ (e : Row). (e.0, number)) more ++ (e.0, number) ∷ rest ≡ map (λ (e : Row). (e.0, number)) (more ++ e ∷ []) ++ rest
map_push number [] e rest = refl
map_push number (m ∷ more) e rest = ap (λ (l : Leads). (m.0, number) ∷ l) (map_push number more e rest)

-- one more
pub runs_more : (number : ℕ) (page : Entries) (leads : Leads) (old new : Entries) (at : Leads) → Runs number page leads old new at
    → (key : Key) (value : List ℕ) (rest : Leads) (next : Entries) → at ≡ (key, number) ∷ rest → value_under page key ≡ Some value → next ≡ new ++ (key, value) ∷ [] → Runs number page leads old next rest
runs_more number page leads old new at is key value rest next here found made = record {
  more = is.more ++ (key, value) ∷ [];
  rows = made ∙ ap (λ (l : Entries). l ++ (key, value) ∷ []) is.rows ∙ append_assoc old is.more ((key, value) ∷ []);
  leads_are = is.leads_are ∙ ap (λ (l : Leads). map (λ (e : Row). (e.0, number)) is.more ++ l) here ∙ map_push number is.more (key, value) rest;
  values = all_push (λ (e : Row). value_under page e.0 ≡ Some e.1) is.more (key, value) is.values found;
}

-- ---- what the rows are

module _ {X : Type 0} where
  behind_first : (e : Key × X) (all es : List (Key × X)) → AllByRecursion (λ y. key_cmp e.0 y ≡ Less) (keys_of es) → AllByRecursion (λ f. lookup (is_at (key_cmp f.0)) all ≡ Some f.1) es
      → AllByRecursion (λ f. lookup (is_at (key_cmp f.0)) (e ∷ all) ≡ Some f.1) es
  behind_first e all [] above found = tt
  behind_first e all (f ∷ es) above found = (
    ap (λ (b : Bool). cond b (Some e.1) (lookup (is_at (key_cmp f.0)) all)) (sym (back key_total e.0 f.0) ∙ ap is_eq above.0) ∙ found.0,
    behind_first e all es above.1 found.1,
  )

  -- of keys that rise each is found
  all_found : (es : List (Key × X)) → HasRisingKeys es → AllByRecursion (λ e. lookup (is_at (key_cmp e.0)) es ≡ Some e.1) es
  unfolding IsStrictlySortedBy
  all_found [] rising = tt
  all_found (e ∷ es) rising = (
    ap (λ (b : Bool). cond b (Some e.1) (lookup (is_at (key_cmp e.0)) es)) (ap is_eq (tied_itself key_total e.0)),
    behind_first e es es rising.0 (all_found es rising.1),
  )

  kept_at : (P : Key × X → Type 0) (b : Bool) (e : Key × X) (rest : List (Key × X)) → P e → AllByRecursion P rest → AllByRecursion P (cond b (e ∷ rest) rest)
  kept_at P true e rest here more = (here, more)
  kept_at P false e rest here more = more

  all_kept : (P : Key × X → Type 0) (p : Key × X → Bool) (es : List (Key × X)) → AllByRecursion P es → AllByRecursion P (filter p es)
  all_kept P p [] all = tt
  all_kept P p (e ∷ es) all = kept_at P (p e) e (filter p es) all.0 (all_kept P p es all.1)

  keys_at : (b : Bool) (e : Key × X) (rest : List (Key × X)) (ks : List Key) → keys_of rest ≡ ks → keys_of (cond b (e ∷ rest) rest) ≡ cond b (e.0 ∷ ks) ks
  keys_at true e rest ks more = ap (λ (l : List Key). e.0 ∷ l) more
  keys_at false e rest ks more = more

  keys_kept : (p : Key → Bool) (es : List (Key × X)) → keys_of (filter (λ e. p e.0) es) ≡ filter p (keys_of es)
  keys_kept p [] = refl
  keys_kept p (e ∷ es) = keys_at (p e.0) e (filter (λ e. p e.0) es) (filter p (keys_of es)) (keys_kept p es)

-- records are told by their keys, where each has the value that stands under its key
pinned : (entries rows all : Entries) (ks : List Key) → keys_of all ≡ keys_of rows ++ ks → AllByRecursion (λ e. value_under entries e.0 ≡ Some e.1) rows → AllByRecursion (λ e. value_under entries e.0 ≡ Some e.1) all
    → (rest : Entries) × (all ≡ rows ++ rest)
pinned entries [] all ks same first second = (all, refl)
pinned entries (r ∷ rows) [] ks same first second = absurd (cc (same))
pinned entries (r ∷ rows) (e ∷ all) ks same first second =
    let key : e.0 ≡ r.0 = cc (same) in
    let keys : keys_of all ≡ keys_of rows ++ ks = cc (same) in
    let both : Some e.1 ≡ Some r.1 = sym second.0 ∙ ap (value_under entries) key ∙ first.0 in
    let value : e.1 ≡ r.1 = cc (both) in
    let more = pinned entries rows all ks keys first.1 second.1 in
    (more.0, λ i. (key i, value i) ∷ more.1 i)

keys_run : (number : ℕ) (more : Entries) (rest : Leads) → keys_of (map (λ (e : Row). (e.0, number)) more ++ rest) ≡ keys_of more ++ keys_of rest
keys_run number [] rest = refl
keys_run number (m ∷ more) rest = ap (λ (l : List Key). m.0 ∷ l) (keys_run number more rest)

-- ---- they are at or above the key

pass_at : (k : Key) (e : Key × ℕ) (rest : Leads) (b : Bool) → is_le (key_cmp k e.0) ≡ b → AllByRecursion (λ e. is_le (key_cmp k e.0) ≡ true) rest → AllByRecursion (λ e. is_le (key_cmp k e.0) ≡ true) (cond b (e ∷ rest) rest)
pass_at k e rest true is more = (is, more)
pass_at k e rest false is more = more

all_pass : (k : Key) (es : Leads) → AllByRecursion (λ e. is_le (key_cmp k e.0) ≡ true) (leads_from es k)
all_pass k [] = tt
all_pass k (e ∷ es) = pass_at k e (leads_from es k) (is_le (key_cmp k e.0)) refl (all_pass k es)

rows_pass : (k : Key) (number : ℕ) (more : Entries) (rest : Leads) → AllByRecursion (λ e. is_le (key_cmp k e.0) ≡ true) (map (λ (e : Row). (e.0, number)) more ++ rest)
    → AllByRecursion (λ (e : Row). is_le (key_cmp k e.0) ≡ true) more
rows_pass k number [] rest all = tt
rows_pass k number (m ∷ more) rest all = (all.0, rows_pass k number more rest all.1)

pub run_above : (keeper : PageMap) (key q : Key) (number : ℕ) (value : List ℕ) (new : Entries) → is_le (key_cmp key q) ≡ true → MayRunOn keeper key number ((q, value) ∷ []) new
    → AllByRecursion (λ (e : Row). is_le (key_cmp key e.0) ≡ true) new
run_above keeper key q number value new above may = ⊎_elim
    (λ (same : new ≡ (q, value) ∷ []). subst (λ (l : Entries). AllByRecursion (λ (e : Row). is_le (key_cmp key e.0) ≡ true) l) (sym same) (above, tt))
    (λ (is : RunsOn keeper key number ((q, value) ∷ []) new).
    let whole : leads_from (index keeper) key ≡ is.first ∷ (map (λ (e : Row). (e.0, number)) is.run.more ++ is.rest) = is.range ∙ ap (λ (l : Leads). is.first ∷ l) is.run.leads_are in
    let all = subst (λ (l : Leads). AllByRecursion (λ e. is_le (key_cmp key e.0) ≡ true) l) whole (all_pass key (index keeper)) in
    subst (λ (l : Entries). AllByRecursion (λ (e : Row). is_le (key_cmp key e.0) ≡ true) l) (sym is.run.rows) (above, rows_pass key number is.run.more is.rest all.1))
    may

module _ (keeper : PageMap) (view : View) (entries : Entries) (h : PagesHold keeper view entries) where
  rising : HasRisingKeys entries
  unfolding IsStrictlySortedBy
  rising = subst (λ (l : Entries). HasRisingKeys l) (sym h.opens.has.map) (gathered_rising [] h.opens.has.pages tt)

  rising_leads : HasRisingKeys (index keeper)
  rising_leads = subst (λ (l : List Key). IsStrictlySortedBy key_cmp l) (sym (same_keys keeper view entries h)) rising

  -- rows that have the values of a page to which their keys lead have the values under their keys
  right_rows : (number : ℕ) (page : Entries) → lookup (nat_eq number) keeper.cache.pages.entries ≡ Some page → (more : Entries) (rest : Leads)
      → AllByRecursion (λ e. page_under (index keeper) e.0 ≡ Some e.1) (map (λ (e : Row). (e.0, number)) more ++ rest) → AllByRecursion (λ e. value_under page e.0 ≡ Some e.1) more
      → AllByRecursion (λ e. value_under entries e.0 ≡ Some e.1) more
  right_rows number page held [] rest leads values = tt
  right_rows number page held (m ∷ more) rest leads values = (
    right_value keeper view entries h m.0 number leads.0 page (held_stands keeper view entries h number page held) m.1 values.0,
    right_rows number page held more rest leads.1 values.1,
  )

  module _ (key q : Key) (number : ℕ) (value : List ℕ) (least : Some (q, number) ≡ lead_from (index keeper) key) (found : value_under entries q ≡ Some value) where
    -- a first record and the run behind it are the first records from the key on
    pub run_starts : (new : Entries) → RunsOn keeper key number ((q, value) ∷ []) new → StartsOf new (entries_from entries key)
    run_starts new is =
        let leads = leads_from (index keeper) key in
        let both : Some is.first ≡ Some (q, number) = ap (λ (l : Leads). slice_get l 0) (sym is.range) ∙ found_first (index keeper) key ∙ sym least in
        let first : is.first ≡ (q, number) = cc (both) in
        let whole : leads ≡ (q, number) ∷ (map (λ (e : Row). (e.0, number)) is.run.more ++ is.rest) = is.range ∙ (λ i. first i ∷ is.run.leads_are i) in
        let keys : keys_of (entries_from entries key) ≡ keys_of ((q, value) ∷ is.run.more) ++ keys_of is.rest =
        keys_kept (λ k. is_le (key_cmp key k)) entries ∙ ap (filter (λ k. is_le (key_cmp key k))) (sym (same_keys keeper view entries h)) ∙ sym (keys_kept (λ k. is_le (key_cmp key k)) (index keeper))
        ∙ ap (λ (l : Leads). keys_of l) whole ∙ ap (λ (l : List Key). q ∷ l) (keys_run number is.run.more is.rest) in
        let led = subst (λ (l : Leads). AllByRecursion (λ e. page_under (index keeper) e.0 ≡ Some e.1) l) whole
        (all_kept (λ e. page_under (index keeper) e.0 ≡ Some e.1) (λ e. is_le (key_cmp key e.0)) (index keeper) (all_found (index keeper) rising_leads)) in
        let rows = right_rows number is.page is.held is.run.more is.rest led.1 is.run.values in
        let all = all_kept (λ e. value_under entries e.0 ≡ Some e.1) (λ e. is_le (key_cmp key e.0)) entries (all_found entries rising) in
        subst (λ (l : Entries). StartsOf l (entries_from entries key)) (sym is.run.rows)
        (pinned entries ((q, value) ∷ is.run.more) (entries_from entries key) (keys_of is.rest) keys (found, rows) all)
