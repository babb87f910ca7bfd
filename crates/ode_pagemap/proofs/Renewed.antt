-- The pages of a file once a plan's images are laid over those that there were.
use Rattle.std.proofs.Common.{◌≡◌, ◌<◌, ⊎_elim, ℕ, ◌+◌, List, Option, Some, None, length, refl, sym, ap, subst, ◌∙◌, arith}
use Rattle.std.proofs.lemmas.Option.{slice_get_cases}
use Rattle.std.specs.List.{slice_get}
use Rattle.std.specs.Option.{option_or}
use Rattle.ode_gate.specs.declared.header.Header.{Header}
use Rattle.ode_gate.specs.declared.places.TheConstants.{PAGE_LEN}
use Rattle.ode_journal.specs.declared.journal.Journal.{Journal}
use Rattle.ode_keep.specs.Entries.{Changes, Entries}
use Rattle.ode_pages.specs.Pages.{IsPage}
use Rattle.ode_paging.specs.declared.planning.Plan.{Plan}
use Rattle.ode_paging.specs.Images.{HasRisingPages, Image, IsPayload}
use Rattle.ode_paging.specs.Overlays.{laid}
use Rattle.ode_paging.specs.Planning.{IsPlanned}
use Rattle.ode_paging.specs.Standing.{HasPage, bytes_at, filled, image_of, page_count}
use Rattle.ode_pagemap.specs.Steps.{AreRenewed, Makes, StandIn}
use Rattle.ode_pagemap.proofs.Alikes.{bytes_of_image, page_among}
use Rattle.ode_pagemap.proofs.Renewing.{count_laid, image_of_laid}
use Rattle.ode_pagemap.proofs.Under.{count_least, counted, page_here}

there : (l : List Entries) (n : ℕ) → n < length l → (es : Entries) × (slice_get l n ≡ Some es)
there l n within = ⊎_elim
    (λ some. (some.0, some.2))
    (λ past. absurd (omega (arith, within, past.0)))
    (slice_get_cases l n).1

module _ (header : Header) (place : Journal) (images : List Image) (pages : List Entries) (file : List ℕ) (has : StandIn header place images pages file)
    (changes : Changes) (plan : Plan) (is : IsPlanned header images file pages changes plan) (payload : IsPayload plan.images plan.frame.payload) where
  rising : HasRisingPages plan.images
  rising = payload.rising

  count_now : length is.now ≡ page_count (length pages) plan.images
  count_now = is.many has.count ∙ count_laid plan.images images header.body_len ∙ ap (λ (n : ℕ). page_count n plan.images) (sym has.count)

  page_now : (page : ℕ) (es : Entries) → slice_get is.now page ≡ Some es → HasPage header (laid plan.images images) file page es
  page_now page es here =
      let number : 0 + page ≡ page = omega arith in
      subst (λ (n : ℕ). HasPage header (laid plan.images images) file n es) number (page_among header (laid plan.images images) file 0 is.now page es is.stand here)

  as_before : (page : ℕ) (es : Entries) → image_of plan.images page ≡ None → HasPage header (laid plan.images images) file page es → HasPage header images file page es
  as_before page es none stands = record {
    bytes = stands.bytes;
    stands =
        ap (λ (o : Option (List ℕ)). bytes_at header file page o)
        (sym (image_of_laid page plan.images images rising ∙ ap (λ (o : Option (List ℕ)). option_or o (image_of images page)) none)) ∙ stands.stands;
    form = stands.form;
  }

  others_at : (page : ℕ) → image_of plan.images page ≡ None → (now old : Option Entries) → slice_get is.now page ≡ now → slice_get pages page ≡ old → slice_get is.now page ≡ slice_get pages page
  others_at page none (Some es) old here before = here ∙ sym (page_here header place images pages file has page es (as_before page es none (page_now page es here)))
  others_at page none None None here before = here ∙ sym before
  others_at page none None (Some es) here before = ⊎_elim
      (λ some. absurd (cc (here, some.2)))
      (λ past. ⊎_elim
      (λ some. absurd (omega (arith, past.0, some.1, count_now, count_least plan.images (length pages))))
      (λ gone. absurd (cc (before, gone.1)))
      (slice_get_cases pages page).1)
      (slice_get_cases is.now page).1

  image_now : (page : ℕ) (used : List ℕ) → image_of plan.images page ≡ Some used → image_of (laid plan.images images) page ≡ Some used
  image_now page used found = image_of_laid page plan.images images rising ∙ ap (λ (o : Option (List ℕ)). option_or o (image_of images page)) found

  each_at : (page : ℕ) (used : List ℕ) → image_of plan.images page ≡ Some used → (entries : Entries) × (slice_get is.now page ≡ Some entries) × IsPage PAGE_LEN entries (filled used)
  each_at page used found =
      let within : page < length is.now = omega (arith, count_now, counted page used plan.images (length pages) found) in
      let here = there is.now page within in
      let stands = page_now page here.0 here.1 in
      (here.0, here.1, subst (λ (l : List ℕ). IsPage PAGE_LEN here.0 l) (sym (bytes_of_image header (laid plan.images images) file page here.0 stands used (image_now page used found))) stands.form)

  pub renewed : AreRenewed plan.images pages is.now
  renewed = record {
    count = count_now;
    others = λ page none. others_at page none (slice_get is.now page) (slice_get pages page) refl refl;
    each = each_at;
    apart = is.are.apart;
  }

  pub makes : Makes changes plan.images plan.frame.payload pages is.now
  makes = record { payload_is = payload; renewed = renewed; map = sym is.entries }
