-- What a keeper of pages holds, before a commit and behind it.
use Rattle.std.proofs.Common.{◌≡◌, ◌<◌, ◌≤◌, arith, ℕ, ◌+◌, List, [], ◌∷◌, Option, Some, None, Result, Ok, Err, IfOk, OnErr, length, sym, ap, subst, ◌∙◌}
use Rattle.std.specs.Prelude.{MatchOption}
use Rattle.std.specs.List.{AllByRecursion, slice_get}
use Rattle.std.specs.Option.{IfSome}
use Rattle.ode_gate.specs.declared.header.Header.{Header}
use Rattle.ode_gate.specs.declared.places.TheConstants.{REGION_LEN}
use Rattle.ode_gate.specs.Headers.{IsOfPages}
use Rattle.ode_gate.specs.Slots.{Counts as HeaderCounts}
use Rattle.ode_host.proofs.Moments.{stands_looks}
use Rattle.ode_host.specs.Host.{Looks}
use Rattle.ode_host.specs.View.{View}
use Rattle.ode_journal.specs.Appends.{JournalStands, need_of, room_of}
use Rattle.ode_journal.specs.declared.journal.Journal.{Journal}
use Rattle.ode_value.specs.Keys.{entry_kind}
use Rattle.ode_keep.specs.Entries.{Changes, Entries, HasRisingKeys, applied, count_of_kind, record_bytes}
use Rattle.ode_keep.specs.Keeping.{OnTooLarge}
use Rattle.ode_keep.specs.declared.limits.TheConstants.{MAX_PAGED_BYTES}
use Rattle.ode_keep.specs.declared.error.KeepError.{KeepError}
use Rattle.ode_keep.specs.declared.error.KeepError.TheVariants.{Memory, DiskFault, TooLarge, Damaged}
use Rattle.ode_paging.specs.declared.opening.Opened.{Opened}
use Rattle.ode_paging.specs.declared.planning.Counts.{Counts}
use Rattle.ode_paging.specs.declared.planning.Plan.{Plan}
use Rattle.ode_paging.specs.Gathering.{gathered}
use Rattle.ode_paging.specs.Images.{FitsImage, Image, IsShortImage, payload_of}
use Rattle.ode_paging.specs.Indexing.{Leads}
use Rattle.ode_paging.specs.Making.{all_pointed}
use Rattle.ode_paging.specs.Opening.{OpensAs}
use Rattle.ode_paging.specs.Planning.{IsCountOf, IsPlanned}
use Rattle.ode_paging.specs.Replacing.{ArePages}
use Rattle.ode_paging.specs.Standing.{HasPage, HavePages, image_of}
use Rattle.ode_pagemap.specs.declared.checkpoint.Checkpoint.{Checkpoint}
use Rattle.ode_pagemap.specs.declared.map.PageMap.{PageMap}
use Rattle.ode_pagemap.specs.Holding.{PagesHold}
use Rattle.ode_pagemap.specs.Cached.{AreAmong, without}
use Rattle.ode_pagemap.specs.Ready.{CountsFor, IsFormed, IsPlannedFor, IsReady, need_for}
use Rattle.ode_pagemap.specs.Steps.{IsOf, StandUnder, images_after}
use Rattle.ode_pagemap.proofs.Forgotten.{all_without}
use Rattle.ode_pagemap.proofs.Renewed.{makes, renewed}
use Rattle.ode_pagemap.proofs.Taken.{pages_among}
use Rattle.ode_pagemap.proofs.Under.{in_of, page_here, under_of}

-- what two things say of an answer says a third
pub if_both : {A E : Type 0} {P Q R : A → Type 0} (r : Result A E) → IfOk r P → IfOk r Q → ((x : A) → P x → Q x → R x) → IfOk r R
if_both (Ok x) p q so = so x p q
if_both (Err e) p q so = tt

pub large_more : (S : Type 0) {P Q : ℕ → Type 0} (result : Result S KeepError) → OnTooLarge result P → ((total : ℕ) → P total → Q total) → OnTooLarge result Q
large_more S (Ok x) on so = tt
large_more S (Err Memory) on so = tt
large_more S (Err DiskFault) on so = tt
large_more S (Err (TooLarge total)) on so = so total on
large_more S (Err (Damaged page)) on so = tt

pages_rising : (header : Header) (images : List Image) (file : List ℕ) (first : ℕ) (pages : List Entries) → HavePages header images file first pages
    → AllByRecursion (λ (es : Entries). HasRisingKeys es) pages
pages_rising header images file first [] have = tt
pages_rising header images file first (es ∷ pages) have = (have.0.form.fits.rising, pages_rising header images file (first + 1) pages have.1)

-- what a plan is made of
module _ (keeper : PageMap) (view : View) (entries : Entries) (h : PagesHold keeper view entries) where
  pub have : HavePages keeper.header keeper.opened.images h.file 0 h.opens.has.pages
  have = subst (λ (l : List Image). HavePages keeper.header l h.file 0 h.opens.has.pages) (sym h.opens.images) h.opens.has.each

  pub are : ArePages h.opens.has.pages
  are = record { rising = pages_rising keeper.header keeper.opened.images h.file 0 h.opens.has.pages have; apart = h.opens.has.apart }

  pub counts_of : (counts : Counts) → counts.bytes ≡ keeper.opened.bytes → counts.queued ≡ keeper.opened.queued → IsCountOf counts (gathered [] h.opens.has.pages)
  counts_of counts bytes queued = record {
    bytes = bytes ∙ h.opens.bytes ∙ ap (λ (l : Entries). record_bytes l) h.opens.has.map;
    queued = queued ∙ h.opens.queued ∙ ap (λ (l : Entries). count_of_kind entry_kind l) h.opens.has.map;
  }

  pub planned_for : (now : View) (changes : Changes) (plan : Plan) → Looks view now → IsPlanned keeper.header keeper.opened.images h.file h.opens.has.pages changes plan
      → IsCountOf plan.counts (applied changes (gathered [] h.opens.has.pages)) → IsPlannedFor keeper now entries changes plan
  planned_for now changes plan looks planned counted = record {
    holds = record {
      file = h.file;
      counts = h.counts;
      pages = h.pages;
      opens = h.opens;
      journal = record { stands = stands_looks h.file view now looks h.journal.stands; has = h.journal.has; place = h.journal.place };
      cached = h.cached;
    };
    planned = planned;
    counted = subst (λ (l : Entries). IsCountOf plan.counts (applied changes l)) (sym h.opens.has.map) counted;
  }

-- a plan that is taken over
zip_all : {A : Type 0} (P Q R : A → Type 0) (l : List A) → AllByRecursion P l → AllByRecursion Q l → ((x : A) → P x → Q x → R x) → AllByRecursion R l
zip_all P Q R [] p q so = tt
zip_all P Q R (x ∷ l) p q so = (so x p.0 q.0, zip_all P Q R l p.1 q.1 so)

fit_short : (images : List Image) → AllByRecursion FitsImage images → AllByRecursion IsShortImage images
fit_short [] all = tt
fit_short (i ∷ images) all = (all.0.used, fit_short images all.1)

pub short_of : (plan : Plan) → IsFormed plan → AllByRecursion IsShortImage plan.images
short_of plan formed = fit_short plan.images formed.payload.each

pub room_now : (plan : Plan) (old new : Journal) (due : Option Checkpoint) → IsFormed plan → new ≡ old
    → MatchOption due (need_for plan.images ≤ room_of old) (λ _. room_of old < need_for plan.images)
    → MatchOption due (need_of plan.frame.payload ≤ room_of new) (λ _. need_of plan.frame.payload ≤ REGION_LEN)
room_now plan old new None formed same room =
    let long : length plan.frame.payload ≡ length (payload_of plan.images) = ap length formed.payload.spelled in
    subst (λ (j : Journal). need_of plan.frame.payload ≤ room_of j) (sym same) (omega (arith, long, room))
room_now plan old new (Some c) formed same room = formed.fits

counts_for : (opened : Opened) (pages : List Entries) (due : Option Checkpoint) → opened.count ≡ length pages → IfSome due (λ c. CountsFor opened c) → IfSome due (λ c. IsOf opened.images pages c)
counts_for opened pages None many some = tt
counts_for opened pages (Some c) many some = record { images_are = some.images; count = some.count ∙ many }

module _ (keeper now : PageMap) (plan : Plan) (due : Option Checkpoint) (opened : Opened) (formed : IsFormed plan)
    (made : opened ≡ record keeper.opened { images = images_after due plan.images keeper.opened.images; index = all_pointed plan.moves.items keeper.opened.index })
    (header_is : now.header ≡ keeper.header) (is : now.opened ≡ record opened { count = plan.count; bytes = plan.counts.bytes; queued = plan.counts.queued })
    (left : List (ℕ × Entries)) (rest : left ≡ without plan.images keeper.cache.pages.entries) (gone : AllByRecursion (λ e. image_of plan.images e.0 ≡ None) left)
    (among : (all : List Entries) → AreAmong all left → AreAmong all plan.pages.entries → AreAmong all now.cache.pages.entries) (of : IfSome due (λ c. CountsFor keeper.opened c)) where
  module _ (view : View) (entries : Entries) (changes : Changes) (planned : IsPlannedFor keeper view entries changes plan) where
    pub ready_of : IsReady now view changes entries (record { frame = plan.frame; due = due })
    ready_of =
        let holds = planned.holds in
        let old = in_of keeper view entries holds in
        let pages = holds.opens.has.pages in
        let later = planned.planned.now in
        let journal_is : now.opened.journal ≡ keeper.opened.journal = ap (λ (o : Opened). o.journal) is ∙ ap (λ (o : Opened). o.journal) made in
        let new = renewed keeper.header keeper.opened.journal keeper.opened.images pages holds.file old changes plan planned.planned formed.payload in
        let stood = all_without (λ e. HasPage keeper.header keeper.opened.images holds.file e.0 e.1) plan.images keeper.cache.pages.entries holds.cached in
        record {
          images = keeper.opened.images;
          over = plan.images;
          pages = pages;
          later = later;
          stand = subst (λ (hd : Header). StandUnder hd now.opened.journal keeper.opened.images pages view) (sym header_is)
              (subst (λ (j : Journal). StandUnder keeper.header j keeper.opened.images pages view) (sym journal_is) (under_of keeper view entries holds));
          map = holds.opens.has.map;
          of = counts_for keeper.opened pages due holds.opens.count of;
          makes = makes keeper.header keeper.opened.journal keeper.opened.images pages holds.file old changes plan planned.planned formed.payload;
          knows = record {
            images_are = ap (λ (o : Opened). o.images) is ∙ ap (λ (o : Opened). o.images) made;
            count = ap (λ (o : Opened). o.count) is ∙ planned.planned.count;
            leads = ap (λ (o : Opened). o.index) is ∙ ap (λ (o : Opened). o.index) made ∙ ap (λ (l : Leads). all_pointed plan.moves.items l) holds.opens.leads ∙ sym planned.planned.leads;
            map = ap (λ (l : Entries). applied changes l) holds.opens.has.map ∙ sym planned.planned.entries;
            bytes = ap (λ (o : Opened). o.bytes) is ∙ planned.counted.bytes;
            queued = ap (λ (o : Opened). o.queued) is ∙ planned.counted.queued;
            cached = among later
                (zip_all (λ e. HasPage keeper.header keeper.opened.images holds.file e.0 e.1) (λ e. image_of plan.images e.0 ≡ None) (λ e. slice_get later e.0 ≡ Some e.1) left
                (subst (λ (l : List (ℕ × Entries)). AllByRecursion (λ e. HasPage keeper.header keeper.opened.images holds.file e.0 e.1) l) (sym rest) stood) gone
                (λ e stands none. new.others e.0 none ∙ page_here keeper.header keeper.opened.journal keeper.opened.images pages holds.file old e.0 e.1 stands))
                (pages_among plan.images pages later new plan.pages.entries formed.pages formed.payload.rising);
          };
          within = subst (λ (n : ℕ). n ≤ MAX_PAGED_BYTES) planned.counted.bytes formed.within;
        }

-- a plan that isn't taken over
pub on_err_any : {A E P : Type 0} (r : Result A E) → P → OnErr r P
on_err_any (Ok x) p = tt
on_err_any (Err e) p = p

record HoldsBy (header : Header) (opened : Opened) (held : List (ℕ × Entries)) (view : View) (entries : Entries) : Type 0 where
  file : List ℕ
  counts : HeaderCounts file header
  pages : IsOfPages header
  opens : OpensAs header file opened entries
  journal : JournalStands header.journal_at opens.has.over.frames file opened.journal view
  cached : AllByRecursion (λ e. HasPage header opened.images file e.0 e.1) held

pub still_holds : (keeper now : PageMap) (old new : View) (entries : Entries) (images : List Image) → now.header ≡ keeper.header → now.opened ≡ keeper.opened
    → now.cache.pages.entries ≡ without images keeper.cache.pages.entries → Looks old new → PagesHold keeper old entries → PagesHold now new entries
still_holds keeper now old new entries images header_is opened_is rest looks h =
    let by : HoldsBy keeper.header keeper.opened (without images keeper.cache.pages.entries) new entries = record {
      file = h.file;
      counts = h.counts;
      pages = h.pages;
      opens = h.opens;
      journal = record { stands = stands_looks h.file old new looks h.journal.stands; has = h.journal.has; place = h.journal.place };
      cached = all_without (λ e. HasPage keeper.header keeper.opened.images h.file e.0 e.1) images keeper.cache.pages.entries h.cached;
    } in
    let there : HoldsBy now.header now.opened now.cache.pages.entries new entries =
    subst (λ (hd : Header). HoldsBy hd now.opened now.cache.pages.entries new entries) (sym header_is)
    (subst (λ (o : Opened). HoldsBy keeper.header o now.cache.pages.entries new entries) (sym opened_is)
    (subst (λ (l : List (ℕ × Entries)). HoldsBy keeper.header keeper.opened l new entries) (sym rest) by)) in
    record { file = there.file; counts = there.counts; pages = there.pages; opens = there.opens; journal = there.journal; cached = there.cached }
