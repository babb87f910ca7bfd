-- Files that are alike mean the same under a header.
use Rattle.std.proofs.Common.{◌≡◌, ◌≤◌, ◌<◌, ℕ, ◌+◌, ◌-◌, ◌*◌, zero, suc, List, [], ◌∷◌, Bool, true, false, cond, nat_lt, Option, Some, None, length, take, drop, refl, sym, ◌∙◌, ap, subst, arith, length-take, length-drop}
use Rattle.std.proofs.lemmas.List.{drop-drop}
use Rattle.std.specs.List.{slice_get}
use Rattle.ode_gate.specs.declared.header.Header.{Header}
use Rattle.ode_gate.specs.declared.places.TheConstants.{PAGE_LEN, SLOTS_END}
use Rattle.ode_gate.specs.Changes.{IsSameBehind}
use Rattle.ode_gate.specs.Headers.{IsOfPages}
use Rattle.ode_gate.specs.Slots.{Counts}
use Rattle.ode_journal.specs.declared.journal.Journal.{Journal}
use Rattle.ode_journal.specs.Frames.{IsJournal, gate_behind}
use Rattle.ode_keep.specs.Entries.{Entries}
use Rattle.ode_pages.specs.Pages.{IsPage}
use Rattle.ode_pages.proofs.Paging.{length-page}
use Rattle.ode_paging.specs.Gathering.{gathered}
use Rattle.ode_paging.specs.Images.{Image}
use Rattle.ode_paging.specs.Meaning.{HasMap, PagesMeanIn}
use Rattle.ode_paging.specs.Standing.{HasPage, HavePages, bytes_at, filled, image_of, place_of}
use Rattle.ode_pagemap.specs.Alike.{AreAlike, HaveSamePages, journal_bytes}
use Rattle.ode_pagemap.specs.Placing.{in_place, place_at}
use Rattle.ode_pagemap.specs.Steps.{StandIn}
use Rattle.ode_journal.proofs.Windows.{gate_inside, journal_window, size, size_is}

-- a page behind its test
pub cond_some : {A : Type 0} (b : Bool) (x y : A) → cond b (Some x) None ≡ Some y → (b ≡ true) × (x ≡ y)
cond_some true x y same = (refl, cc (same))
cond_some false x y same = absurd (cc (same))

-- One of the pages, and each of them.
module _ (header : Header) (images : List Image) (file : List ℕ) where
  pub page_among : (from : ℕ) (pages : List Entries) (n : ℕ) (es : Entries) → HavePages header images file from pages → slice_get pages n ≡ Some es → HasPage header images file (from + n) es
  page_among from [] n es have here = absurd (cc (here))
  page_among from (f ∷ pages) zero es have here =
      let same : f ≡ es = cc (here) in
      let place : from ≡ from + 0 = omega arith in
      subst (λ (k : ℕ). HasPage header images file k es) place (subst (λ (l : Entries). HasPage header images file from l) same have.0)
  page_among from (f ∷ pages) (suc n) es have here =
      let place : from + 1 + n ≡ from + suc n = omega arith in
      subst (λ (k : ℕ). HasPage header images file k es) place (page_among (from + 1) pages n es have.1 here)

  pub pages_among : (from : ℕ) (pages : List Entries) → ((n : ℕ) (es : Entries) → slice_get pages n ≡ Some es → HasPage header images file (from + n) es) → HavePages header images file from pages
  pages_among from [] each = tt
  pages_among from (f ∷ pages) each =
      let place : from + 0 ≡ from = omega arith in (
        subst (λ (k : ℕ). HasPage header images file k f) place (each 0 f refl),
        pages_among (from + 1) pages (λ n es here.
            let next : from + suc n ≡ from + 1 + n = omega arith in
            subst (λ (k : ℕ). HasPage header images file k es) next (each (suc n) es here)),
      )

-- where a page stands under a header of pages
pub place_is : (header : Header) (page : ℕ) → IsOfPages header → place_of header page ≡ place_at page
place_is header page form = ap (λ (k : ℕ). k + PAGE_LEN * page) form.body

-- a page that is in place under a header, and lies within the file
module _ (header : Header) (form : IsOfPages header) (images : List Image) (file : List ℕ) (page : ℕ) (es : Entries) (has : HasPage header images file page es) where
  pub bytes_in_place : image_of images page ≡ None → (nat_lt page header.body_len ≡ true) × (in_place file page ≡ has.bytes)
  bytes_in_place none =
      let both = cond_some (nat_lt page header.body_len) (take PAGE_LEN (drop (place_of header page) file)) has.bytes (ap (λ (o : Option (List ℕ)). bytes_at header file page o) (sym none) ∙ has.stands) in
      (both.0, ap (λ (k : ℕ). take PAGE_LEN (drop k file)) (sym (place_is header page form)) ∙ both.1)

  pub place_inside : image_of images page ≡ None → place_at page + PAGE_LEN ≤ length file
  place_inside none =
      omega (
        arith,
        length-page PAGE_LEN es has.bytes has.form,
        ap (λ (l : List ℕ). length l) (bytes_in_place none).1,
        length-take PAGE_LEN (drop (place_at page) file),
        length-drop (place_at page) file,
      )

-- the page with these bytes in its place
pub has_in_place : (header : Header) (images : List Image) (file : List ℕ) (page : ℕ) (es : Entries) → IsOfPages header → image_of images page ≡ None → nat_lt page header.body_len ≡ true
    → IsPage PAGE_LEN es (in_place file page) → HasPage header images file page es
has_in_place header images file page es form none below is = record {
  bytes = in_place file page;
  stands =
      ap (λ (o : Option (List ℕ)). bytes_at header file page o) none
      ∙ ap (λ (b : Bool). cond b (Some (take PAGE_LEN (drop (place_of header page) file))) None) below
      ∙ ap (λ (k : ℕ). Some (take PAGE_LEN (drop k file))) (place_is header page form);
  form = is;
}

-- the page with this image
pub has_image : (header : Header) (images : List Image) (file : List ℕ) (page : ℕ) (es : Entries) (used : List ℕ) → image_of images page ≡ Some used → IsPage PAGE_LEN es (filled used)
    → HasPage header images file page es
has_image header images file page es used some is = record { bytes = filled used; stands = ap (λ (o : Option (List ℕ)). bytes_at header file page o) some; form = is }

-- the bytes of the page with this image
pub bytes_of_image : (header : Header) (images : List Image) (file : List ℕ) (page : ℕ) (es : Entries) (has : HasPage header images file page es) (used : List ℕ) → image_of images page ≡ Some used
    → filled used ≡ has.bytes
bytes_of_image header images file page es has used some =
    let both : Some (filled used) ≡ Some has.bytes = ap (λ (o : Option (List ℕ)). bytes_at header file page o) (sym some) ∙ has.stands in
    cc (both)

-- a page of one file is a page of the other
pub has_alike : (header : Header) (images : List Image) (file c : List ℕ) → IsOfPages header → HaveSamePages images file c → (page : ℕ) (es : Entries) → HasPage header images file page es
    → (found : Option (List ℕ)) → image_of images page ≡ found → HasPage header images c page es
has_alike header images file c form same page es has (Some used) found =
    has_image header images c page es used found (subst (λ (l : List ℕ). IsPage PAGE_LEN es l) (sym (bytes_of_image header images file page es has used found)) has.form)
has_alike header images file c form same page es has None found =
    let here = bytes_in_place header form images file page es has found in
    has_in_place header images c page es form found here.0
    (subst (λ (l : List ℕ). IsPage PAGE_LEN es l) (sym (same page (place_inside header form images file page es has found) found ∙ here.1)) has.form)

pub pages_alike : (header : Header) (images : List Image) (file c : List ℕ) (pages : List Entries) → IsOfPages header → HaveSamePages images file c → HavePages header images file 0 pages
    → HavePages header images c 0 pages
pages_alike header images file c pages form same have =
    pages_among header images c 0 pages (λ n es here.
    has_alike header images file c form same (0 + n) es (page_among header images file 0 pages n es have here) (image_of images (0 + n)) refl)

-- a header and a file, and where its journal has its last gate
module _ (header : Header) (place : Journal) (images : List Image) (pages : List Entries) (file : List ℕ) (has : StandIn header place images pages file) where
  pub gate_is : place.at ≡ gate_behind header.journal_at has.over.frames
  gate_is = ap (λ (j : Journal). j.at) has.gate

  pub end_is : place.end ≡ header.journal_end
  end_is = ap (λ (j : Journal). j.end) has.gate

  pub gate_within : place.at + 1 ≤ length file
  gate_within = omega (arith, gate_is, gate_inside header.journal_at header.journal_end has.over.frames file file has.over.journal)

  pub gate_before : place.at < header.journal_end
  gate_before = omega (arith, gate_is, has.over.journal.shut.within)

  pub gate_from : header.journal_at ≤ place.at
  gate_from = omega (arith, gate_is)

  -- the map of the file
  pub map_in : HasMap header file (gathered [] pages)
  map_in = record { images = images; over = has.over; pages = pages; count = has.count; each = has.each; apart = has.apart; map = refl }

  pub means_in : Counts file header → PagesMeanIn header.format file (gathered [] pages)
  means_in counts = record { means = record { header = header; counts = counts; pages = has.form; has = map_in }; is = refl }

  module _ (c : List ℕ) where
    journal_alike : journal_bytes header place.at c ≡ journal_bytes header place.at file → IsJournal header.journal_at header.journal_end has.over.frames c
    journal_alike same =
        let wide : place.at + 1 - header.journal_at ≡ size header.journal_at header.journal_end has.over.frames file file has.over.journal =
        omega (arith, gate_is, size_is header.journal_at header.journal_end has.over.frames file file has.over.journal) in
        journal_window header.journal_at header.journal_end has.over.frames file c has.over.journal
        (ap (λ (n : ℕ). take n (drop header.journal_at c)) (sym wide) ∙ same ∙ ap (λ (n : ℕ). take n (drop header.journal_at file)) wide)

    -- files that are alike have the same pages
    pub alike : AreAlike header place.at images file c → StandIn header place images pages c
    alike like = record {
      form = has.form;
      over = record { frames = has.over.frames; journal = journal_alike like.journal; overlays = has.over.overlays; payloads = has.over.payloads; laid = has.over.laid };
      gate = has.gate;
      count = has.count;
      each = pages_alike header images file c pages has.form like.pages has.each;
      apart = has.apart;
    }

-- what stands behind the slots is all that a header's pages rest on
same_from : (file c : List ℕ) (at : ℕ) → SLOTS_END ≤ at → IsSameBehind file c → drop at c ≡ drop at file
same_from file c at behind same =
    let is : SLOTS_END + (at - SLOTS_END) ≡ at = omega arith in
    ap (λ (k : ℕ). drop k c) (sym is) ∙ sym (drop-drop (at - SLOTS_END) SLOTS_END c) ∙ ap (λ (l : List ℕ). drop (at - SLOTS_END) l) same.behind
    ∙ drop-drop (at - SLOTS_END) SLOTS_END file ∙ ap (λ (k : ℕ). drop k file) is

pub alike_behind : (header : Header) (gate : ℕ) (images : List Image) (file c : List ℕ) → IsOfPages header → IsSameBehind file c → AreAlike header gate images file c
alike_behind header gate images file c form same = record {
  journal = ap (λ (l : List ℕ). take (gate + 1 - header.journal_at) l) (same_from file c header.journal_at (omega (arith, form.region)) same);
  pages = λ page within none. ap (λ (l : List ℕ). take PAGE_LEN l) (same_from file c (place_at page) (omega arith) same);
}
