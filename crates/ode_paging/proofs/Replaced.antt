-- What a change of one page makes of all entries, and of where their keys lead.
use Rattle.std.proofs.Common.{◌≡◌, ◌≤◌, ⊎_elim, ℕ, ◌+◌, List, [], Bool, true, false, cond, length, Option, Some, None, refl, sym, ap, subst, ◌∙◌, arith}
use Rattle.std.specs.Prelude.{not}
use Rattle.std.specs.BTreeMap.{is_at}
use Rattle.std.specs.List.Sorted.{IsStrictlySortedBy}
use Rattle.std.specs.Map.{lookup}
use Rattle.std.specs.Ordering.{eq_by_cmp}
use Rattle.std.proofs.lemmas.Cmp.{eq_by_cmp_equiv}
use Rattle.std.proofs.lemmas.Map.{lookup-remove_entry}
use Rattle.ode_value.specs.declared.key.Key.{Key}
use Rattle.ode_value.specs.Keys.{key_cmp}
use Rattle.ode_keep.specs.Entries.{Entries, HasRisingKeys, changed, value_under}
use Rattle.ode_keep.proofs.Applying.{changed_at, changed_rising}
use Rattle.ode_keep.proofs.Keys.{distinct_keys, key_total, same_key}
use Rattle.ode_keep.proofs.Maps.{lookup_put, one_gone, rising_put, rising_some}
use Rattle.ode_keep.proofs.SameMaps.{same_map}
use Rattle.ode_paging.specs.Gathering.{HaveNewKeys, gathered}
use Rattle.ode_paging.specs.Indexing.{Leads, indexed}
use Rattle.ode_paging.specs.OneMap.{gathered_rising}
use Rattle.ode_paging.specs.Replacing.{ArePages, IsReplaced, LeadsOnlyTo, page_changed, page_with, pointed}
use Rattle.ode_paging.proofs.Columns.{AreRising, OnlyIn, changed_in, changed_pages, gathered_at, indexed_at, lacks_only, new_at, new_changed, new_from, nowhere, only, or_none, page_in, value_in}
use Rattle.ode_paging.proofs.Indexed.{indexed_keys}

one_key : (k x y : Key) → is_at (key_cmp k) x ≡ true → is_at (key_cmp k) y ≡ eq_by_cmp key_cmp x y
one_key k x y h = ap (λ (z : Key). is_at (key_cmp z) y) (sym (same_key k x h))

pub pointed_at : (leads : Leads) (k : Key) (page : Option ℕ) (q : Key) → HasRisingKeys leads
    → lookup (is_at (key_cmp q)) (pointed leads k page) ≡ cond (is_at (key_cmp k) q) page (lookup (is_at (key_cmp q)) leads)
pointed_at leads k None q rising = lookup-remove_entry (eq_by_cmp_equiv key_total) (is_at (key_cmp k)) (one_key k) q leads (distinct_keys leads rising)
pointed_at leads k (Some page) q rising = lookup_put key_total k page q leads

pub pointed_rising : (leads : Leads) (k : Key) (page : Option ℕ) → HasRisingKeys leads → HasRisingKeys (pointed leads k page)
pointed_rising leads k None rising =
    subst (λ (l : Leads). HasRisingKeys l) (one_gone key_total k leads (distinct_keys leads rising)) (rising_some key_cmp (λ e. not (is_at (key_cmp k) e.0)) leads rising)
pointed_rising leads k (Some page) rising = rising_put key_total k page leads rising

twice_at : {A : Type 0} (b : Bool) (x y found : Option A) → cond b y (cond b x found) ≡ cond b y found
twice_at true x y found = refl
twice_at false x y found = refl

-- of two changes under one key the last counts
pub changed_twice : (es : Entries) (k : Key) (v w : Option (List ℕ)) → HasRisingKeys es → changed (changed es k v) k w ≡ changed es k w
changed_twice es k v w rising =
    same_map (changed (changed es k v) k w) (changed es k w) (changed_rising (changed es k v) k w (changed_rising es k v rising)) (changed_rising es k w rising)
    (λ q. changed_at (changed es k v) k w q ∙ ap (λ (f : Option (List ℕ)). cond (is_at (key_cmp k) q) w f) (changed_at es k v q)
    ∙ twice_at (is_at (key_cmp k) q) v w (value_under es q) ∙ sym (changed_at es k w q))

pub pointed_twice : (leads : Leads) (k : Key) (m n : Option ℕ) → HasRisingKeys leads → pointed (pointed leads k m) k n ≡ pointed leads k n
pointed_twice leads k m n rising =
    same_map (pointed (pointed leads k m) k n) (pointed leads k n) (pointed_rising (pointed leads k m) k n (pointed_rising leads k m rising)) (pointed_rising leads k n rising)
    (λ q. pointed_at (pointed leads k m) k n q (pointed_rising leads k m rising) ∙ ap (λ (f : Option ℕ). cond (is_at (key_cmp k) q) n f) (pointed_at leads k m q rising)
    ∙ twice_at (is_at (key_cmp k) q) m n (lookup (is_at (key_cmp q)) leads) ∙ sym (pointed_at leads k n q rising))

module _ (pages : List Entries) (rising : AreRising pages) where
  pub all_rising : HasRisingKeys (gathered [] pages)
  unfolding IsStrictlySortedBy
  all_rising = gathered_rising [] pages tt

  pub leads_rising : HasRisingKeys (indexed 0 [] pages)
  leads_rising = subst (λ (ks : List Key). IsStrictlySortedBy key_cmp ks) (sym (indexed_keys 0 [] [] pages refl)) all_rising

  pub value_of : (q : Key) → value_under (gathered [] pages) q ≡ value_in q pages
  value_of q = gathered_at q 0 pages [] rising ∙ or_none (value_in q pages)

  pub page_of : (q : Key) → lookup (is_at (key_cmp q)) (indexed 0 [] pages) ≡ page_in q 0 pages
  page_of q = indexed_at q 0 pages [] rising ∙ or_none (page_in q 0 pages)

  -- a key that leads to no other page is in no other one
  pub only_in : (k : Key) (page : ℕ) → HaveNewKeys [] pages → LeadsOnlyTo (indexed 0 [] pages) k page → OnlyIn k pages page
  only_in k page new leads = ⊎_elim
      (λ (none : lookup (is_at (key_cmp k)) (indexed 0 [] pages) ≡ None). lacks_only k pages page (nowhere k 0 pages (sym (page_of k) ∙ none)))
      (λ (there : lookup (is_at (key_cmp k)) (indexed 0 [] pages) ≡ Some page).
      let here : page ≡ 0 + page = omega arith in
      only k 0 pages page (new_at k pages [] rising new) (sym (page_of k) ∙ there ∙ ap (λ (m : ℕ). Some m) here))
      leads

module _ (k : Key) (w : Option (List ℕ)) (pages : List Entries) (page : ℕ) (rising : AreRising pages) (in_one : OnlyIn k pages page) (within : page ≤ length pages) where
  abbrev after : List Entries
  after = page_changed pages page k w

  after_rising : AreRising after
  after_rising = changed_pages k w pages page rising

  gathered_changed : gathered [] after ≡ changed (gathered [] pages) k w
  gathered_changed =
      same_map (gathered [] after) (changed (gathered [] pages) k w) (all_rising after after_rising) (changed_rising (gathered [] pages) k w (all_rising pages rising))
      (λ q. value_of after after_rising q
      ∙ changed_in (λ n v. v) (λ n. refl) k w q 0 pages page in_one within
      ∙ ap (λ (f : Option (List ℕ)). cond (is_at (key_cmp k) q) w f) (sym (value_of pages rising q))
      ∙ sym (changed_at (gathered [] pages) k w q))

  indexed_changed : indexed 0 [] after ≡ pointed (indexed 0 [] pages) k (page_with page w)
  indexed_changed =
      same_map (indexed 0 [] after) (pointed (indexed 0 [] pages) k (page_with page w)) (leads_rising after after_rising)
      (pointed_rising (indexed 0 [] pages) k (page_with page w) (leads_rising pages rising))
      (λ q. page_of after after_rising q
      ∙ changed_in page_with (λ n. refl) k w q 0 pages page in_one within
      ∙ (let here : 0 + page ≡ page = omega arith in λ i. cond (is_at (key_cmp k) q) (page_with (here i) w) (sym (page_of pages rising q) i))
      ∙ sym (pointed_at (indexed 0 [] pages) k (page_with page w) q (leads_rising pages rising)))

-- a change of the page to which its key leads
pub replaced : (pages : List Entries) (k : Key) (w : Option (List ℕ)) (page : ℕ) → ArePages pages → LeadsOnlyTo (indexed 0 [] pages) k page → page ≤ length pages
    → IsReplaced pages (page_changed pages page k w) k w page
replaced pages k w page are leads within =
    let in_one : OnlyIn k pages page = only_in pages are.rising k page are.apart leads in
    record {
      entries = gathered_changed k w pages page are.rising in_one within;
      leads = indexed_changed k w pages page are.rising in_one within;
      are = record {
        rising = changed_pages k w pages page are.rising;
        apart = new_from (page_changed pages page k w) [] (changed_pages k w pages page are.rising)
            (λ q. new_changed k w q None pages page in_one (λ h. refl) (new_at q pages [] are.rising are.apart));
      };
    }
