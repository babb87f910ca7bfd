-- Pages that the images of a frame renew.
use Rattle.std.proofs.Common.{◌≡◌, ℕ, ◌+◌, max, List, [], ◌∷◌, ◌++◌, Bool, true, false, cond, Option, Some, None, length, refl, sym, ◌∙◌, ap, subst, arith, append_assoc}
use Rattle.std.proofs.lemmas.Cmp.{eq_by_cmp_equiv, nat_cmp_total, ranked}
use Rattle.std.proofs.lemmas.List.{append-nil}
use Rattle.std.proofs.lemmas.Map.{lookup-none}
use Rattle.std.proofs.lemmas.Map.Entries.{none_past_head}
use Rattle.std.proofs.lemmas.Map.Keys.{IsDistinct-from_sorted, IsDistinct-tail}
use Rattle.std.specs.BTreeMap.{insert_entry, is_at}
use Rattle.std.specs.List.{IsDistinct, slice_get}
use Rattle.std.specs.Map.{keys_of}
use Rattle.std.specs.Option.{option_or}
use Rattle.std.specs.Ordering.{eq_by_cmp, match_ordering, nat_cmp}
use Rattle.std.specs.declared.cmp.Ordering.{Ordering}
use Rattle.std.specs.declared.cmp.Ordering.TheVariants.{Less, Equal, Greater}
use Rattle.ode_gate.specs.declared.header.Header.{Header}
use Rattle.ode_gate.specs.declared.places.TheConstants.{PAGE_LEN}
use Rattle.ode_gate.specs.Headers.{IsOfPages}
use Rattle.ode_keep.specs.Entries.{Entries}
use Rattle.ode_keep.specs.Rising.{above_all, follows, inserted_last, rising_front}
use Rattle.ode_keep.proofs.Maps.{back, lookup_put}
use Rattle.ode_pages.specs.Pages.{IsPage}
use Rattle.ode_paging.specs.Images.{HasRisingPages, Image}
use Rattle.ode_paging.specs.Overlays.{laid}
use Rattle.ode_paging.specs.Standing.{HasPage, HavePages, bytes_at, filled, image_of, page_count}
use Rattle.ode_pagemap.specs.Steps.{AreRenewed}
use Rattle.ode_pagemap.proofs.Alikes.{has_image, page_among, pages_among}

-- Images that are laid over others: those of a page are found first.
laid_first : (b c : Bool) → b ≡ c → (used : List ℕ) (rest found : Option (List ℕ)) → (c ≡ true → rest ≡ None)
    → option_or rest (cond b (Some used) found) ≡ option_or (cond c (Some used) rest) found
laid_first true true same used rest found none = ap (λ (r : Option (List ℕ)). option_or r (Some used)) (none refl)
laid_first false false same used rest found none = refl
laid_first true false same used rest found none = absurd (cc (same))
laid_first false true same used rest found none = absurd (cc (same))

distinct_laid : (page : ℕ) (over images : List Image) → IsDistinct (eq_by_cmp nat_cmp) (keys_of over) → image_of (laid over images) page ≡ option_or (image_of over page) (image_of images page)
distinct_laid page [] images d = refl
distinct_laid page (i ∷ over) images d =
    distinct_laid page over (insert_entry nat_cmp images i.0 i.1) (IsDistinct-tail (eq_by_cmp nat_cmp) i.0 (keys_of over) d)
    ∙ ap (λ (found : Option (List ℕ)). option_or (image_of over page) found) (lookup_put nat_cmp_total i.0 i.1 page images)
    ∙ laid_first (is_at (nat_cmp i.0) page) (is_at (nat_cmp page) i.0) (back nat_cmp_total i.0 page) i.1 (image_of over page) (image_of images page)
    (λ h. lookup-none (is_at (nat_cmp page)) over (none_past_head (eq_by_cmp_equiv nat_cmp_total) page i over d h))

pub image_of_laid : (page : ℕ) (over images : List Image) → HasRisingPages over → image_of (laid over images) page ≡ option_or (image_of over page) (image_of images page)
image_of_laid page over images rising = distinct_laid page over images (IsDistinct-from_sorted nat_cmp (keys_of over) rising)

-- Images that rise are laid one behind the other.
laid_behind : (images over : List Image) → HasRisingPages (images ++ over) → laid over images ≡ images ++ over
laid_behind images [] rising = sym (append-nil images)
laid_behind images (i ∷ over) rising =
    let front = rising_front nat_cmp images (i ∷ over) rising in
    let last = inserted_last nat_cmp_total images i.0 i.1 (above_all nat_cmp_total images i.0 front (follows nat_cmp images i over rising)) in
    let moved = append_assoc images (i ∷ []) over in
    ap (λ (l : List Image). laid over l) last ∙ laid_behind (images ++ i ∷ []) over (subst (λ (l : List Image). HasRisingPages l) (sym moved) rising) ∙ moved

pub laid_alone : (over : List Image) → HasRisingPages over → laid over [] ≡ over
laid_alone over rising = laid_behind [] over rising

-- How many pages there are with some images.
count_more : (count more : ℕ) (images : List Image) → page_count (max count more) images ≡ max (page_count count images) more
count_more count more [] = refl
count_more count more (i ∷ images) =
    let swap : max (max count more) (i.0 + 1) ≡ max (max count (i.0 + 1)) more = omega arith in
    ap (λ (n : ℕ). page_count n images) swap ∙ count_more (max count (i.0 + 1)) more images

count_put_at : (count page : ℕ) (used : List ℕ) (i : Image) (images rest : List Image) → ((n : ℕ) → page_count n rest ≡ max (page_count n images) (page + 1)) → (r : Ordering) → r ≡ nat_cmp page i.0
    → page_count count (match_ordering r ((page, used) ∷ i ∷ images) ((i.0, used) ∷ images) (i ∷ rest)) ≡ max (page_count count (i ∷ images)) (page + 1)
count_put_at count page used i images rest more Less is = count_more count (page + 1) (i ∷ images)
count_put_at count page used i images rest more Equal is =
    let here : page ≡ i.0 = ranked page i.0 Equal is in
    let same : max count (i.0 + 1) ≡ max (max count (i.0 + 1)) (page + 1) = omega (arith, here) in
    ap (λ (n : ℕ). page_count n images) same ∙ count_more (max count (i.0 + 1)) (page + 1) images
count_put_at count page used i images rest more Greater is = more (max count (i.0 + 1))

count_put : (page : ℕ) (used : List ℕ) (images : List Image) (count : ℕ) → page_count count (insert_entry nat_cmp images page used) ≡ max (page_count count images) (page + 1)
count_put page used [] count = refl
count_put page used (i ∷ images) count = count_put_at count page used i images (insert_entry nat_cmp images page used) (count_put page used images) (nat_cmp page i.0) refl

pub count_laid : (over images : List Image) (count : ℕ) → page_count count (laid over images) ≡ page_count (page_count count images) over
count_laid [] images count = refl
count_laid (i ∷ over) images count =
    count_laid over (insert_entry nat_cmp images i.0 i.1) count ∙ ap (λ (n : ℕ). page_count n over) (count_put i.0 i.1 images count)

-- Under a header that has some pages in a file, another file, of which the pages in place are the same.
module _ (header : Header) (form : IsOfPages header) (images over : List Image) (old new : List Entries) (file : List ℕ) (rising : HasRisingPages over) (renewed : AreRenewed over old new)
    (have : HavePages header images file 0 old) where
  renewed_at : (n : ℕ) (es : Entries) → slice_get new n ≡ Some es → (found : Option (List ℕ)) → image_of over n ≡ found → HasPage header (laid over images) file n es
  renewed_at n es here (Some used) found =
      let made = renewed.each n used found in
      let both : Some made.0 ≡ Some es = sym made.1 ∙ here in
      let same : made.0 ≡ es = cc (both) in
      has_image header (laid over images) file n es used (image_of_laid n over images rising ∙ ap (λ (o : Option (List ℕ)). option_or o (image_of images n)) found)
      (subst (λ (l : Entries). IsPage PAGE_LEN l (filled used)) same made.2)
  renewed_at n es here None found =
      let was : HasPage header images file (0 + n) es = page_among header images file 0 old n es have (sym (renewed.others n found) ∙ here) in
      let place : 0 + n ≡ n = omega arith in
      let is : HasPage header images file n es = subst (λ (k : ℕ). HasPage header images file k es) place was in
      record {
        bytes = is.bytes;
        stands = ap (λ (o : Option (List ℕ)). bytes_at header file n o) (image_of_laid n over images rising ∙ ap (λ (o : Option (List ℕ)). option_or o (image_of images n)) found) ∙ is.stands;
        form = is.form;
      }

  pub renewed_pages : HavePages header (laid over images) file 0 new
  renewed_pages =
      pages_among header (laid over images) file 0 new (λ n es here.
      let place : n ≡ 0 + n = omega arith in
      subst (λ (k : ℕ). HasPage header (laid over images) file k es) place (renewed_at n es here (image_of over n) refl))

  pub renewed_count : length old ≡ page_count header.body_len images → length new ≡ page_count header.body_len (laid over images)
  renewed_count count = renewed.count ∙ ap (λ (n : ℕ). page_count n over) count ∙ sym (count_laid over images header.body_len)
