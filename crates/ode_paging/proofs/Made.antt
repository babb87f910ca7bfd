-- What a change of the value under one key makes of the pages.
use Rattle.std.proofs.Common.{◌≡◌, ◌<◌, ◌≤◌, inl, inr, ℕ, List, [], Bool, true, false, cond, length, Option, Some, None, refl, sym, ap, ◌∙◌, arith}
use Rattle.std.specs.BTreeMap.{is_at}
use Rattle.std.specs.Map.{lookup}
use Rattle.std.specs.Ordering.{is_eq}
use Rattle.std.proofs.lemmas.Cmp.{tied_itself}
use Rattle.ode_gate.specs.declared.header.Header.{Header}
use Rattle.ode_host.specs.View.{View}
use Rattle.ode_value.specs.declared.key.Key.{Key}
use Rattle.ode_value.specs.Keys.{key_cmp}
use Rattle.ode_keep.specs.Entries.{Entries, HasRisingKeys, changed, value_under}
use Rattle.ode_keep.proofs.Applying.{changed_at, changed_rising}
use Rattle.ode_keep.proofs.Keys.{key_total, same_key}
use Rattle.ode_keep.proofs.SameMaps.{same_map}
use Rattle.ode_paging.specs.declared.hand.Hand.{Hand}
use Rattle.ode_paging.specs.Gathering.{gathered}
use Rattle.ode_paging.specs.Hands.{HasInHand}
use Rattle.ode_paging.specs.Images.{Image}
use Rattle.ode_paging.specs.Indexing.{Leads, indexed}
use Rattle.ode_paging.specs.Making.{IsMade}
use Rattle.ode_paging.specs.Replacing.{ArePages, page_at, page_changed, page_with, pointed}
use Rattle.ode_paging.proofs.Columns.{to_last, value_only}
use Rattle.ode_paging.proofs.Indexed.{indexed_keys, same_none}
use Rattle.ode_paging.proofs.Replaced.{all_rising, changed_twice, leads_rising, only_in, page_of, pointed_at, pointed_rising, pointed_twice, replaced, value_of}

none_at : {A : Type 0} (b : Bool) (found : Option A) → (b ≡ true → found ≡ None) → cond b None found ≡ found
none_at true found none = sym (none refl)
none_at false found none = refl

-- what isn't there can be taken out
nothing_out : (es : Entries) (k : Key) → HasRisingKeys es → value_under es k ≡ None → changed es k None ≡ es
nothing_out es k rising none =
    same_map (changed es k None) es (changed_rising es k None rising) rising
    (λ q. changed_at es k None q ∙ none_at (is_at (key_cmp k) q) (value_under es q) (λ h. ap (λ (x : Key). value_under es x) (same_key k q h) ∙ none))

-- and a key that leads nowhere leads nowhere then
pub no_pointer : (leads : Leads) (k : Key) → HasRisingKeys leads → lookup (is_at (key_cmp k)) leads ≡ None → pointed leads k None ≡ leads
no_pointer leads k rising none =
    same_map (pointed leads k None) leads (pointed_rising leads k None rising) rising
    (λ q. pointed_at leads k None q rising
    ∙ none_at (is_at (key_cmp k) q) (lookup (is_at (key_cmp q)) leads) (λ h. ap (λ (x : Key). lookup (is_at (key_cmp x)) leads) (same_key k q h) ∙ none))

-- a key leads to a page that there is
pub leads_within : (pages : List Entries) (k : Key) (page : ℕ) → ArePages pages → Some page ≡ lookup (is_at (key_cmp k)) (indexed 0 [] pages) → page < length pages
leads_within pages k page are there = let last = to_last k 0 page pages (sym (page_of pages are.rising k) ∙ sym there) in omega (arith, last)

-- where the key was taken out it leads nowhere
out_leads : (leads : Leads) (k : Key) → HasRisingKeys leads → lookup (is_at (key_cmp k)) (pointed leads k None) ≡ None
out_leads leads k rising =
    pointed_at leads k None k rising ∙ ap (λ (b : Bool). cond b None (lookup (is_at (key_cmp k)) leads)) (ap is_eq (tied_itself key_total k))

module _ (view : View) (header : Header) (images : List Image) (hand : Hand) (pages now : List Entries) (k : Key) (are : ArePages now) where
  abbrev led : Option ℕ
  led = lookup (is_at (key_cmp k)) (indexed 0 [] now)

  -- the value under a key is that in the page to which it leads
  pub value_led : (page : ℕ) → Some page ≡ led → value_under (gathered [] now) k ≡ value_under (page_at now page) k
  value_led page there = value_of now are.rising k ∙ value_only k 0 now page (only_in now are.rising k page are.apart (inr (sym there)))

  pub no_value : None ≡ led → value_under (gathered [] now) k ≡ None
  no_value nowhere = same_none (is_at (key_cmp k)) (indexed 0 [] now) (gathered [] now) (indexed_keys 0 [] [] now refl) (sym nowhere)

  -- a key that leads nowhere has nothing to be taken out
  pub made_nothing : None ≡ led → HasInHand view header images hand pages now → IsMade view header images hand pages now k None None
  made_nothing nowhere has = record {
    after = now;
    has = has;
    are = are;
    entries = sym (nothing_out (gathered [] now) k (all_rising now are.rising)
        (same_none (is_at (key_cmp k)) (indexed 0 [] now) (gathered [] now) (indexed_keys 0 [] [] now refl) (sym nowhere)));
    leads = sym (no_pointer (indexed 0 [] now) k (leads_rising now are.rising) (sym nowhere));
  }

  -- the value is changed in its page
  pub made_in : (value : Option (List ℕ)) (page : ℕ) → Some page ≡ led → HasInHand view header images hand pages (page_changed now page k value)
      → IsMade view header images hand pages now k value (page_with page value)
  made_in value page there has =
      let is = replaced now k value page are (inr (sym there)) (omega (arith, leads_within now k page are there)) in
      record { after = page_changed now page k value; has = has; are = is.are; entries = is.entries; leads = is.leads }

  -- where it was taken out one is put into any
  pub made_put : (v : List ℕ) (page : ℕ) (before : View) (old : Hand) (out : IsMade before header images old pages now k None None) → page ≤ length out.after
      → HasInHand view header images hand pages (page_changed out.after page k (Some v)) → IsMade view header images hand pages now k (Some v) (Some page)
  made_put v page before old out within has =
      let nowhere : lookup (is_at (key_cmp k)) (indexed 0 [] out.after) ≡ None =
      ap (λ (l : Leads). lookup (is_at (key_cmp k)) l) out.leads ∙ out_leads (indexed 0 [] now) k (leads_rising now are.rising) in
      let is = replaced out.after k (Some v) page out.are (inl nowhere) within in
      record {
        after = page_changed out.after page k (Some v);
        has = has;
        are = is.are;
        entries = is.entries ∙ ap (λ (es : Entries). changed es k (Some v)) out.entries ∙ changed_twice (gathered [] now) k None (Some v) (all_rising now are.rising);
        leads = is.leads ∙ ap (λ (l : Leads). pointed l k (Some page)) out.leads ∙ pointed_twice (indexed 0 [] now) k None (Some page) (leads_rising now are.rising);
      }
