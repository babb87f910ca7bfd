-- Each key of an index leads to the page in which its value stands.
use Rattle.std.proofs.Common.{◌≡◌, inl, inr, ⊎_elim, ℕ, ◌+◌, List, [], ◌∷◌, Bool, true, false, cond, Option, Some, None, refl, sym, ap, subst, ◌∙◌}
use Rattle.std.specs.Prelude.{◌⊎◌}
use Rattle.std.specs.BTreeMap.{insert_entry, is_at}
use Rattle.std.specs.List.{IsDistinct}
use Rattle.std.specs.Map.{lookup, keys_of}
use Rattle.std.specs.Ordering.{eq_by_cmp}
use Rattle.std.proofs.lemmas.Cmp.{eq_by_cmp_equiv}
use Rattle.std.proofs.lemmas.Map.{lookup-none}
use Rattle.std.proofs.lemmas.Map.Entries.{none_past_head}
use Rattle.std.proofs.lemmas.Map.Keys.{IsDistinct-tail}
use Rattle.ode_gate.specs.declared.header.Header.{Header}
use Rattle.ode_value.specs.declared.key.Key.{Key}
use Rattle.ode_value.specs.Keys.{key_cmp}
use Rattle.ode_value.specs.Records.{Row}
use Rattle.ode_keep.specs.Entries.{Entries, changed, value_under}
use Rattle.ode_keep.proofs.Keys.{distinct_keys, key_total}
use Rattle.ode_keep.proofs.Maps.{back, lookup_put}
use Rattle.ode_paging.specs.declared.opening.Opened.{Opened}
use Rattle.ode_paging.specs.Gathering.{gathered, joined}
use Rattle.ode_paging.specs.Images.{Image}
use Rattle.ode_paging.specs.Indexing.{Leads, indexed, led}
use Rattle.ode_paging.specs.Leading.{LeadsTo}
use Rattle.ode_paging.specs.Opening.{OpensAs}
use Rattle.ode_paging.specs.Replacing.{page_with}
use Rattle.ode_paging.specs.Standing.{HavePages}
use Rattle.ode_paging.proofs.Indexed.{indexed_keys, same_none}

-- the first of two, where there is one
abbrev pub or_else : {A : Type 0} → Option A → Option A → Option A
or_else None other = other
or_else (Some x) other = Some x

value_at : (b c : Bool) → b ≡ c → (v : List ℕ) (rest found : Option (List ℕ)) → (c ≡ true → rest ≡ None)
    → or_else rest (cond b (Some v) found) ≡ or_else (cond c (Some v) rest) found
value_at true true same v rest found none = ap (λ (r : Option (List ℕ)). or_else r (Some v)) (none refl)
value_at false false same v rest found none = refl
value_at true false same v rest found none = absurd (cc (same))
value_at false true same v rest found none = absurd (cc (same))

page_at : (b c : Bool) → b ≡ c → (page : ℕ) (v : List ℕ) (rest : Option (List ℕ)) (found : Option ℕ) → (c ≡ true → rest ≡ None)
    → or_else (page_with page rest) (cond b (Some page) found) ≡ or_else (page_with page (cond c (Some v) rest)) found
page_at true true same page v rest found none = ap (λ (r : Option (List ℕ)). or_else (page_with page r) (Some page)) (none refl)
page_at false false same page v rest found none = refl
page_at true false same page v rest found none = absurd (cc (same))
page_at false true same page v rest found none = absurd (cc (same))

module _ (k : Key) where
  none_later : (e : Row) (es : Entries) → IsDistinct (eq_by_cmp key_cmp) (keys_of (e ∷ es)) → is_at (key_cmp k) e.0 ≡ true → value_under es k ≡ None
  none_later e es d h = lookup-none (is_at (key_cmp k)) es (none_past_head (eq_by_cmp_equiv key_total) k e es d h)

  pub joined_at : (es entries : Entries) → IsDistinct (eq_by_cmp key_cmp) (keys_of es) → value_under (joined entries es) k ≡ or_else (value_under es k) (value_under entries k)
  joined_at [] entries d = refl
  joined_at (e ∷ es) entries d =
      joined_at es (changed entries e.0 (Some e.1)) (IsDistinct-tail (eq_by_cmp key_cmp) e.0 (keys_of es) d)
      ∙ ap (λ (found : Option (List ℕ)). or_else (value_under es k) found) (lookup_put key_total e.0 e.1 k entries)
      ∙ value_at (is_at (key_cmp e.0) k) (is_at (key_cmp k) e.0) (back key_total e.0 k) e.1 (value_under es k) (value_under entries k) (none_later e es d)

  pub led_at : (page : ℕ) (es : Entries) (leads : Leads) → IsDistinct (eq_by_cmp key_cmp) (keys_of es)
      → lookup (is_at (key_cmp k)) (led page leads es) ≡ or_else (page_with page (value_under es k)) (lookup (is_at (key_cmp k)) leads)
  led_at page [] leads d = refl
  led_at page (e ∷ es) leads d =
      led_at page es (insert_entry key_cmp leads e.0 page) (IsDistinct-tail (eq_by_cmp key_cmp) e.0 (keys_of es) d)
      ∙ ap (λ (found : Option ℕ). or_else (page_with page (value_under es k)) found) (lookup_put key_total e.0 page k leads)
      ∙ page_at (is_at (key_cmp e.0) k) (is_at (key_cmp k) e.0) (back key_total e.0 k) page e.1 (value_under es k) (lookup (is_at (key_cmp k)) leads) (none_later e es d)

  module _ (header : Header) (images : List Image) (file : List ℕ) (n : ℕ) where
    -- where a page has no value, the key leads where it led; else it leads there
    through : (page : ℕ) (es : Entries) (leads : Leads) (entries after : Entries) (found : Option (List ℕ)) → value_under es k ≡ found
        → HavePages header images file page (es ∷ []) → lookup (is_at (key_cmp k)) (led page leads es) ≡ Some n → value_under after k ≡ value_under (joined entries es) k
        → ((lookup (is_at (key_cmp k)) leads ≡ Some n) × (value_under after k ≡ value_under entries k)) ⊎ LeadsTo header images file k n after
    through page es leads entries after None found has leads_there same =
        let d = distinct_keys es has.0.form.fits.rising in
        inl (
          sym (led_at page es leads d ∙ ap (λ (f : Option (List ℕ)). or_else (page_with page f) (lookup (is_at (key_cmp k)) leads)) found) ∙ leads_there,
          same ∙ joined_at es entries d ∙ ap (λ (f : Option (List ℕ)). or_else f (value_under entries k)) found,
        )
    through page es leads entries after (Some v) found has leads_there same =
        let d = distinct_keys es has.0.form.fits.rising in
        let both : Some page ≡ Some n = sym (led_at page es leads d ∙ ap (λ (f : Option (List ℕ)). or_else (page_with page f) (lookup (is_at (key_cmp k)) leads)) found) ∙ leads_there in
        let here : page ≡ n = cc (both) in
        inr (subst (λ (m : ℕ). LeadsTo header images file k m after) here (record {
          entries = es;
          stands = has.0;
          value = v;
          here = found;
          there = same ∙ joined_at es entries d ∙ ap (λ (f : Option (List ℕ)). or_else f (value_under entries k)) found;
        }))

    pub leads_to : (pages : List Entries) (page : ℕ) (leads : Leads) (entries : Entries) → HavePages header images file page pages → lookup (is_at (key_cmp k)) (indexed page leads pages) ≡ Some n
        → ((lookup (is_at (key_cmp k)) leads ≡ Some n) × (value_under (gathered entries pages) k ≡ value_under entries k)) ⊎ LeadsTo header images file k n (gathered entries pages)
    leads_to [] page leads entries have there = inl (there, refl)
    leads_to (es ∷ pages) page leads entries have there = ⊎_elim
        (λ (before : (lookup (is_at (key_cmp k)) (led page leads es) ≡ Some n) × (value_under (gathered (joined entries es) pages) k ≡ value_under (joined entries es) k)).
        through page es leads entries (gathered (joined entries es) pages) (value_under es k) refl (have.0, tt) before.0 before.1)
        (λ (later : LeadsTo header images file k n (gathered (joined entries es) pages)). inr later)
        (leads_to pages (page + 1) (led page leads es) (joined entries es) have.1 there)

-- of an opened file
module _ (header : Header) (file : List ℕ) (it : Opened) (entries : Entries) (opens : OpensAs header file it entries) (k : Key) where
  pub opened_leads : (n : ℕ) → lookup (is_at (key_cmp k)) it.index ≡ Some n → LeadsTo header it.images file k n entries
  opened_leads n there =
      let own : LeadsTo header opens.has.images file k n (gathered [] opens.has.pages) = ⊎_elim
      (λ (none : (None ≡ Some n) × (value_under (gathered [] opens.has.pages) k ≡ None)). absurd (cc (none.0)))
      (λ (leads : LeadsTo header opens.has.images file k n (gathered [] opens.has.pages)). leads)
      (leads_to k header opens.has.images file n opens.has.pages 0 [] [] opens.has.each (ap (λ (l : Leads). lookup (is_at (key_cmp k)) l) (sym opens.leads) ∙ there)) in
      subst (λ (l : Entries). LeadsTo header it.images file k n l) (sym opens.has.map)
      (subst (λ (l : List Image). LeadsTo header l file k n (gathered [] opens.has.pages)) (sym opens.images) own)

  pub opened_lacks : lookup (is_at (key_cmp k)) it.index ≡ None → value_under entries k ≡ None
  opened_lacks none =
      same_none (is_at (key_cmp k)) it.index entries
      (ap (λ (l : Leads). keys_of l) opens.leads ∙ indexed_keys 0 [] [] opens.has.pages refl ∙ ap (λ (l : Entries). keys_of l) (sym opens.has.map)) none
