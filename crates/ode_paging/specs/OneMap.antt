-- An image has one map, or one place at which it is bad, and never both.
use Rattle.std.proofs.Common.{◌≡◌, ◌<◌, ℕ, ◌+◌, List, [], ◌∷◌, length, Some, refl, sym, ◌∙◌, ap, subst, arith}
use Rattle.std.specs.List.Sorted.{IsStrictlySortedBy}
use Rattle.ode_gate.specs.declared.header.Header.{Header}
use Rattle.ode_gate.specs.declared.places.TheConstants.{PAGE_LEN}
use Rattle.ode_gate.proofs.Counting.{one_counts}
use Rattle.ode_journal.specs.Histories.{ArePayloads, in_turn}
use Rattle.ode_journal.proofs.Histories.{journal_not_bad, one_history}
use Rattle.ode_journal.proofs.Unique.{journal_unique}
use Rattle.ode_keep.specs.Entries.{Entries, HasRisingKeys, changed}
use Rattle.ode_keep.proofs.Applying.{changed_rising}
use Rattle.ode_pages.proofs.Decoding.{same_entries}
use Rattle.ode_pages.specs.Pages.{IsPage}
use Rattle.ode_paging.specs.Gathering.{AreApart, HaveNewKeys, gathered, joined}
use Rattle.ode_paging.specs.Images.{Image, IsPayload}
use Rattle.ode_paging.specs.Meaning.{HasImages, HasMap, IsBadJournal, IsBadPage, PagesMean}
use Rattle.ode_paging.specs.Overlays.{laid}
use Rattle.ode_paging.specs.Spelling.{one_payload}
use Rattle.ode_paging.specs.Standing.{HasPage, HavePages, page_count}

-- Under one header, and with the same images.
module _ (header : Header) (images : List Image) (file : List ℕ) where
  pub one_page : (page : ℕ) (a b : Entries) → HasPage header images file page a → HasPage header images file page b → a ≡ b
  one_page page a b first second =
      let both : Some first.bytes ≡ Some second.bytes = sym first.stands ∙ second.stands in
      let same : first.bytes ≡ second.bytes = cc (both) in
      same_entries PAGE_LEN a b second.bytes (subst (λ (l : List ℕ). IsPage PAGE_LEN a l) same first.form) second.form

  one_list : (page : ℕ) (a b : List Entries) → length a ≡ length b → HavePages header images file page a → HavePages header images file page b → a ≡ b
  one_list page [] [] long first second = refl
  one_list page [] (f ∷ b) long first second = absurd (omega (arith, long))
  one_list page (e ∷ a) [] long first second = absurd (omega (arith, long))
  one_list page (e ∷ a) (f ∷ b) long first second =
      ap (λ (x : Entries). x ∷ a) (one_page page e f first.0 second.0)
      ∙ ap (λ (l : List Entries). f ∷ l) (one_list (page + 1) a b (omega (arith, long)) first.1 second.1)

  -- behind the first of all pages stands one more, whose keys are new
  one_more : (front pages : List Entries) (page : ℕ) (entries : Entries) → length front < length pages → HavePages header images file page front → HavePages header images file page pages
      → HaveNewKeys entries pages → (more : Entries) × HasPage header images file (page + length front) more × AreApart more (gathered entries front)
  one_more [] [] page entries less first second new = absurd (omega (arith, less))
  one_more [] (e ∷ pages) page entries less first second new =
      let here : page ≡ page + 0 = omega arith in
      (e, subst (λ (k : ℕ). HasPage header images file k e) here second.0, new.0)
  one_more (f ∷ front) [] page entries less first second new = absurd (omega (arith, less))
  one_more (f ∷ front) (e ∷ pages) page entries less first second new =
      let same : e ≡ f = one_page page e f second.0 first.0 in
      let more = one_more front pages (page + 1) (joined entries f) (omega (arith, less)) first.1 second.1 (subst (λ (x : Entries). HaveNewKeys (joined entries x) pages) same new.1) in
      let here : page + 1 + length front ≡ page + length (f ∷ front) = omega arith in
      (more.0, subst (λ (k : ℕ). HasPage header images file k more.0) here more.1, more.2)

-- Under one header.
module _ (header : Header) (file : List ℕ) where
  pub one_overlay : (a b : List Image) → HasImages header file a → HasImages header file b → a ≡ b
  one_overlay a b first second =
      let frames : first.frames ≡ second.frames = journal_unique header.journal_at header.journal_end file first.frames second.frames first.journal second.journal in
      let overlays : first.overlays ≡ second.overlays =
      one_history IsPayload one_payload first.overlays second.overlays second.frames (subst (λ (l : List (List ℕ)). ArePayloads IsPayload first.overlays l) frames first.payloads) second.payloads in
      first.laid ∙ ap (λ (l : List (List Image)). in_turn laid l []) overlays ∙ sym second.laid

  pub one_has : (a b : Entries) → HasMap header file a → HasMap header file b → a ≡ b
  one_has a b first second =
      let images : first.images ≡ second.images = one_overlay first.images second.images first.over second.over in
      let long : length first.pages ≡ length second.pages = first.count ∙ ap (λ (l : List Image). page_count header.body_len l) images ∙ sym second.count in
      let pages : first.pages ≡ second.pages =
      one_list header second.images file 0 first.pages second.pages long (subst (λ (l : List Image). HavePages header l file 0 first.pages) images first.each) second.each in
      first.map ∙ ap (λ (l : List Entries). gathered [] l) pages ∙ sym second.map

  pub has_not_bad_journal : (entries : Entries) (at : ℕ) → HasMap header file entries → IsBadJournal header file at → ⊥
  has_not_bad_journal entries at has bad = journal_not_bad IsPayload header.journal_end file header.journal_at has.over.frames has.over.overlays at has.over.journal has.over.payloads bad

  pub page_not_bad_journal : (page at : ℕ) → IsBadPage header file page → IsBadJournal header file at → ⊥
  page_not_bad_journal page at is bad = journal_not_bad IsPayload header.journal_end file header.journal_at is.over.frames is.over.overlays at is.over.journal is.over.payloads bad

  -- where other pages go on behind those before a bad one, it isn't bad
  not_further : (page : ℕ) (is : IsBadPage header file page) (images : List Image) (pages : List Entries) → HasImages header file images → HavePages header images file 0 pages
      → HaveNewKeys [] pages → page < length pages → ⊥
  not_further page is images pages over each new further =
      let same : images ≡ is.images = one_overlay images is.images over is.over in
      let more = one_more header is.images file is.front pages 0 [] (omega (arith, further, is.place)) is.each (subst (λ (l : List Image). HavePages header l file 0 pages) same each) new in
      let here : 0 + length is.front ≡ page = omega (arith, is.place) in
      is.bad more.0 (subst (λ (k : ℕ). HasPage header is.images file k more.0) here more.1) more.2

  pub has_not_bad_page : (entries : Entries) (page : ℕ) → HasMap header file entries → IsBadPage header file page → ⊥
  has_not_bad_page entries page has bad =
      let same : has.images ≡ bad.images = one_overlay has.images bad.images has.over bad.over in
      let count : length has.pages ≡ page_count header.body_len bad.images = has.count ∙ ap (λ (l : List Image). page_count header.body_len l) same in
      not_further page bad has.images has.pages has.over has.each has.apart (omega (arith, bad.within, count))

  pub one_bad_page : (p q : ℕ) → IsBadPage header file p → IsBadPage header file q → p ≡ q
  one_bad_page p q first second = omega (
    arith,
    λ (less : p < q). not_further p first second.images second.front second.over second.each second.apart (omega (arith, less, second.place)),
    λ (less : q < p). not_further q second first.images first.front first.over first.each first.apart (omega (arith, less, first.place)),
  )

-- an image stands for one map
pub one_map : (image : List ℕ) (entries others : Entries) → PagesMean image entries → PagesMean image others → entries ≡ others
one_map image entries others first second =
    let same : first.header ≡ second.header = one_counts image first.header second.header first.counts second.counts in
    one_has second.header image entries others (subst (λ (h : Header). HasMap h image entries) same first.has) second.has

joined_rising : (entries page : Entries) → HasRisingKeys entries → HasRisingKeys (joined entries page)
joined_rising entries [] rising = rising
joined_rising entries (e ∷ page) rising = joined_rising (changed entries e.0 (Some e.1)) page (changed_rising entries e.0 (Some e.1) rising)

pub gathered_rising : (entries : Entries) (pages : List Entries) → HasRisingKeys entries → HasRisingKeys (gathered entries pages)
gathered_rising entries [] rising = rising
gathered_rising entries (page ∷ pages) rising = gathered_rising (joined entries page) pages (joined_rising entries page rising)

-- the records that an image stands for rise
pub rising : (image : List ℕ) (entries : Entries) → PagesMean image entries → HasRisingKeys entries
unfolding IsStrictlySortedBy
rising image entries means = subst (λ (l : Entries). HasRisingKeys l) (sym means.has.map) (gathered_rising [] means.has.pages tt)
