-- What was opened, and that the answer is decided by the file.
use Rattle.std.proofs.Common.{◌≡◌, ◌<◌, ℕ, List, [], Result, IfOk, IsErrOf, refl, sym, ap, subst, ◌∙◌}
use Rattle.std.proofs.lemmas.Result.{IfOk-weaker}
use Rattle.std.specs.Map.{keys_of}
use Rattle.ode_gate.specs.declared.header.Header.{Header}
use Rattle.ode_host.specs.Host.{Tells}
use Rattle.ode_host.specs.View.{View}
use Rattle.ode_journal.specs.declared.journal.Journal.{Journal}
use Rattle.ode_journal.specs.Histories.{IsReplayed, in_turn}
use Rattle.ode_journal.proofs.Histories.{one_bad}
use Rattle.ode_keep.specs.Entries.{Entries}
use Rattle.ode_keep.specs.declared.error.StartError.{StartError}
use Rattle.ode_keep.specs.declared.error.StartError.TheVariants.{BadJournal, BadPage}
use Rattle.ode_paging.specs.declared.opening.Opened.{Opened}
use Rattle.ode_paging.specs.Gathering.{gathered}
use Rattle.ode_paging.specs.Images.{Image, IsPayload}
use Rattle.ode_paging.specs.Indexing.{Leads}
use Rattle.ode_paging.specs.Meaning.{HasImages, HasMap, IsBadJournal, IsBadPage}
use Rattle.ode_paging.specs.OneMap.{has_not_bad_journal, has_not_bad_page, one_bad_page, one_has, page_not_bad_journal}
use Rattle.ode_paging.specs.Opening.{OpensAs}
use Rattle.ode_paging.specs.Overlays.{laid}
use Rattle.ode_paging.specs.Pageful.{AreRead, StopsAt}
use Rattle.ode_paging.specs.Standing.{page_count}
use Rattle.ode_keep.specs.Starting.{Refuses, Starts}
use Rattle.ode_keep.proofs.Starting.{refuses_journal, refuses_page, starts}
use Rattle.ode_paging.proofs.Indexed.{indexed_keys}

abbrev over_from : (header : Header) (file : List ℕ) (old images : List Image) (place : Journal) → old ≡ [] → IsReplayed IsPayload laid header.journal_at header.journal_end old images place file → HasImages header file images
over_from header file old images place none after = record {
  frames = after.frames;
  journal = after.stands;
  overlays = after.steps;
  payloads = after.payloads;
  laid = after.state ∙ ap (λ (l : List Image). in_turn laid after.steps l) none;
}

module _ (header : Header) (file : List ℕ) (view : View) (tells : Tells view file) (old : List Image) (none : old ≡ []) where
  pub opened : (it : Opened) → IsReplayed IsPayload laid header.journal_at header.journal_end old it.images it.journal file → it.count ≡ page_count header.body_len it.images
      → AreRead view header it.images it.count it.index (record { bytes = it.bytes; queued = it.queued }) → (entries : Entries) × OpensAs header file it entries
  opened it after count read = (
    gathered [] read.pages,
    record {
      has = record {
        images = it.images;
        over = over_from header file old it.images it.journal none after;
        pages = read.pages;
        count = sym read.many ∙ count;
        each = read.each file tells;
        apart = read.apart;
        map = refl;
      };
      images = refl;
      journal = after.behind;
      count = read.many;
      leads = read.leads_are;
      bytes = read.sums_are.bytes;
      queued = read.sums_are.queued;
    },
  )

  pub bad_page : (images : List Image) (place : Journal) (count page : ℕ) → IsReplayed IsPayload laid header.journal_at header.journal_end old images place file → count ≡ page_count header.body_len images
      → StopsAt view header images count page → IsBadPage header file page
  bad_page images place count page after exact stops = record {
    images = images;
    over = over_from header file old images place none after;
    front = stops.front;
    place = stops.place;
    within = subst (λ (n : ℕ). page < n) exact stops.within;
    each = stops.each file tells;
    apart = stops.apart;
    bad = stops.bad file tells;
  }

-- the keys that lead to pages are those of the records
pub opened_keys : (header : Header) (file : List ℕ) (it : Opened) (own entries : Entries) → OpensAs header file it own → HasMap header file entries → keys_of it.index ≡ keys_of entries
opened_keys header file it own entries opens has =
    ap (λ (l : Leads). keys_of l) opens.leads ∙ indexed_keys 0 [] [] opens.has.pages refl ∙ ap (λ (l : Entries). keys_of l) (sym opens.has.map)
    ∙ ap (λ (l : Entries). keys_of l) (one_has header file own entries opens.has has)

-- What is true of the file is answered, where the answers are true and at most one of them can be.
module _ (header : Header) (file : List ℕ) where
  abbrev IsBadAt : ℕ → Type 0
  IsBadAt at = IsBadJournal header file at

  abbrev IsBadIn : ℕ → Type 0
  IsBadIn page = IsBadPage header file page

  module _ (r : Result Opened StartError) (bad_at : (at : ℕ) → IsErrOf r (BadJournal at) → IsBadAt at) (bad_in : (page : ℕ) → IsErrOf r (BadPage page) → IsBadIn page) where
    pub exact_starts : (entries : Entries) → HasMap header file entries → Starts r
    exact_starts entries has =
        starts IsBadAt IsBadIn r bad_at bad_in (λ at is. has_not_bad_journal header file entries at has is) (λ page is. has_not_bad_page header file entries page has is)

    module _ (found : IfOk r (λ it. (entries : Entries) × OpensAs header file it entries)) where
      pub exact_journal : (at : ℕ) → IsBadAt at → Refuses r (BadJournal at)
      exact_journal at is =
          refuses_journal IsBadAt IsBadIn r bad_at bad_in (IfOk-weaker r _ _ (λ it own. has_not_bad_journal header file own.0 at own.1.has is) found) at
          (λ other also. one_bad IsPayload header.journal_end file header.journal_at other at also is) (λ page also. page_not_bad_journal header file page at also is)

      pub exact_page : (page : ℕ) → IsBadIn page → Refuses r (BadPage page)
      exact_page page is =
          refuses_page IsBadAt IsBadIn r bad_at bad_in (IfOk-weaker r _ _ (λ it own. has_not_bad_page header file own.0 page own.1.has is) found) page
          (λ other also. one_bad_page header file other page also is) (λ at also. page_not_bad_journal header file page at is also)
