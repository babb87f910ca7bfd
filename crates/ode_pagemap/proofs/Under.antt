-- What a keeper of pages holds, as the writes of a commit need it.
use Rattle.std.proofs.Common.{◌≡◌, ◌≤◌, ◌<◌, ⊎_elim, ℕ, ◌+◌, max, List, [], ◌∷◌, cond, Option, Some, None, length, refl, sym, ◌∙◌, ap, subst, arith}
use Rattle.std.proofs.lemmas.Bool.{ltb-true}
use Rattle.std.proofs.lemmas.Cmp.{ranked}
use Rattle.std.proofs.lemmas.Option.{slice_get_cases}
use Rattle.std.specs.List.{slice_get}
use Rattle.std.specs.Ordering.{is_eq, nat_cmp}
use Rattle.std.specs.declared.cmp.Ordering.{Ordering}
use Rattle.std.specs.declared.cmp.Ordering.TheVariants.{Less, Equal, Greater}
use Rattle.ode_gate.specs.declared.header.Header.{Header}
use Rattle.ode_host.specs.View.{View}
use Rattle.ode_journal.specs.declared.journal.Journal.{Journal}
use Rattle.ode_keep.specs.Entries.{Entries}
use Rattle.ode_paging.specs.Images.{Image}
use Rattle.ode_paging.specs.OneMap.{one_page}
use Rattle.ode_paging.specs.Standing.{HasPage, HavePages, image_of, page_count}
use Rattle.ode_pagemap.specs.declared.map.PageMap.{PageMap}
use Rattle.ode_pagemap.specs.Holding.{PagesHold}
use Rattle.ode_pagemap.specs.Steps.{StandIn, StandUnder}
use Rattle.ode_pagemap.proofs.Alikes.{bytes_in_place, page_among}

pub in_of : (keeper : PageMap) (view : View) (entries : Entries) (h : PagesHold keeper view entries) → StandIn keeper.header keeper.opened.journal keeper.opened.images h.opens.has.pages h.file
in_of keeper view entries h = record {
  form = h.pages;
  over = record {
    frames = h.opens.has.over.frames;
    journal = h.opens.has.over.journal;
    overlays = h.opens.has.over.overlays;
    payloads = h.opens.has.over.payloads;
    laid = h.opens.images ∙ h.opens.has.over.laid;
  };
  gate = h.opens.journal;
  count = h.opens.has.count ∙ ap (λ (l : List Image). page_count keeper.header.body_len l) (sym h.opens.images);
  each = subst (λ (l : List Image). HavePages keeper.header l h.file 0 h.opens.has.pages) (sym h.opens.images) h.opens.has.each;
  apart = h.opens.has.apart;
}

pub under_of : (keeper : PageMap) (view : View) (entries : Entries) (h : PagesHold keeper view entries) → StandUnder keeper.header keeper.opened.journal keeper.opened.images h.opens.has.pages view
under_of keeper view entries h = record { file = h.file; stands = h.journal.stands; counts = h.counts; has = in_of keeper view entries h }

-- The pages that have images are among those that are counted.
pub count_least : (images : List Image) (count : ℕ) → count ≤ page_count count images
count_least [] count = omega arith
count_least (i ∷ images) count = omega (arith, count_least images (max count (i.0 + 1)))

counted_at : (page : ℕ) (used : List ℕ) (i : Image) (images : List Image) (count : ℕ) → (r : Ordering) → r ≡ nat_cmp page i.0
    → (image_of images page ≡ Some used → page < page_count (max count (i.0 + 1)) images) → image_of (i ∷ images) page ≡ Some used → page < page_count (max count (i.0 + 1)) images
counted_at page used i images count Less is more found = more (ap (λ (r : Ordering). cond (is_eq r) (Some i.1) (image_of images page)) is ∙ found)
counted_at page used i images count Equal is more found =
    let here : page ≡ i.0 = ranked page i.0 Equal is in
    omega (arith, here, count_least images (max count (i.0 + 1)))
counted_at page used i images count Greater is more found = more (ap (λ (r : Ordering). cond (is_eq r) (Some i.1) (image_of images page)) is ∙ found)

pub counted : (page : ℕ) (used : List ℕ) (images : List Image) (count : ℕ) → image_of images page ≡ Some used → page < page_count count images
counted page used [] count found = absurd (cc (found))
counted page used (i ∷ images) count found = counted_at page used i images count (nat_cmp page i.0) refl (counted page used images (max count (i.0 + 1))) found

module _ (header : Header) (place : Journal) (images : List Image) (pages : List Entries) (file : List ℕ) (has : StandIn header place images pages file) (page : ℕ) (es : Entries) where
  page_within : HasPage header images file page es → (found : Option (List ℕ)) → image_of images page ≡ found → page < length pages
  page_within is (Some used) found = omega (arith, has.count, counted page used images header.body_len found)
  page_within is None found =
      let below : page < header.body_len = ltb-true page header.body_len (bytes_in_place header has.form images file page es is found).0 in
      omega (arith, below, has.count, count_least images header.body_len)

  -- a page that stands there is the one of its number
  pub page_here : HasPage header images file page es → slice_get pages page ≡ Some es
  page_here is =
      let within : page < length pages = page_within is (image_of images page) refl in
      ⊎_elim
      (λ some.
      let number : 0 + page ≡ page = omega arith in
      let own : HasPage header images file page some.0 = subst (λ (k : ℕ). HasPage header images file k some.0) number (page_among header images file 0 pages page some.0 has.each some.2) in
      some.2 ∙ ap Some (one_page header images file page some.0 es own is))
      (λ past. absurd (omega (arith, within, past.0)))
      (slice_get_cases pages page).1

  -- and so the other way
  pub page_there : slice_get pages page ≡ Some es → HasPage header images file page es
  page_there here = let number : 0 + page ≡ page = omega arith in subst (λ (k : ℕ). HasPage header images file k es) number (page_among header images file 0 pages page es has.each here)
