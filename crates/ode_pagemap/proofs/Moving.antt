-- The writes of a checkpoint, and what a stop leaves in each.
use Rattle.std.proofs.Common.{◌≡◌, ◌≢◌, ◌≤◌, ◌<◌, ◌⊎◌, inl, inr, ⊎_elim, ℕ, ◌+◌, ◌-◌, List, [], ◌∷◌, Option, Some, None, length, drop, refl, sym, ◌∙◌, ap, subst, arith}
use Rattle.std.proofs.lemmas.Bool.{lt-ltb}
use Rattle.std.proofs.lemmas.Option.{slice_get_within}
use Rattle.std.specs.List.{slice_get}
use Rattle.ode_gate.specs.declared.header.Header.{Header}
use Rattle.ode_gate.specs.declared.gate.TheConstants.{OPEN, SHUT}
use Rattle.ode_gate.specs.declared.places.TheConstants.{PAGES_AT, PAGE_LEN, REGION_0, REGION_1, SLOTS_END}
use Rattle.ode_gate.specs.Changes.{IsChanged, LeavesHeader, MayReplace}
use Rattle.ode_gate.specs.Slots.{Counts}
use Rattle.ode_gate.proofs.Fronts.{counts_front}
use Rattle.ode_host.specs.Host.{LeavesOnly, LeavesTorn, Stands, Torn, written_over}
use Rattle.ode_host.specs.View.{View}
use Rattle.ode_host.proofs.Bytes.{torn_apart, written-torn, wrote_here}
use Rattle.ode_host.proofs.Moments.{joined, weaker}
use Rattle.ode_journal.specs.declared.journal.Journal.{Journal}
use Rattle.ode_journal.specs.Frames.{IsJournal, gate_behind}
use Rattle.ode_keep.specs.Entries.{Entries}
use Rattle.ode_pages.specs.Pages.{IsPage}
use Rattle.ode_paging.specs.Gathering.{gathered}
use Rattle.ode_paging.specs.Images.{Image}
use Rattle.ode_paging.specs.Meaning.{PagesMeanIn}
use Rattle.ode_paging.specs.Standing.{HasPage, filled, image_of}
use Rattle.ode_pagemap.specs.Alike.{AreAlike, HaveSamePages}
use Rattle.ode_pagemap.specs.Placing.{ArePlaced, IsSameBeside, LeavesBeside, TouchesNone, in_place, place_at}
use Rattle.ode_pagemap.specs.Steps.{BothStand, IsNext, LeavesPages, StandIn, StandUnder, empty_under}
use Rattle.ode_pagemap.proofs.Alikes.{alike, alike_behind, bytes_in_place, bytes_of_image, gate_before, gate_from, gate_within, has_in_place, means_in, page_among, pages_among, place_inside}
use Rattle.ode_pagemap.proofs.Looking.{found_all, missing_misses}
use Rattle.ode_journal.proofs.Windows.{journal_spelled}

-- what lies in front of the pages touches no place
in_front : (at n : ℕ) (images : List Image) → at + n ≤ PAGES_AT → TouchesNone at n images
in_front at n [] before = tt
in_front at n (i ∷ images) before = (inl (omega (arith, before)), in_front at n images before)

-- Some images are written to their places.
module _ (older : Header) (place : Journal) (images : List Image) (pages : List Entries) (file c : List ℕ) (has : StandIn older place images pages file) (beside : IsSameBeside images file c) where
  slots_inside : SLOTS_END ≤ length file
  slots_inside = omega (arith, has.form.region, gate_from older place images pages file has, gate_within older place images pages file has)

  pub beside_counts : Counts file older → Counts c older
  beside_counts counts = counts_front file c older (beside.same 0 SLOTS_END (omega (arith, slots_inside)) (in_front 0 SLOTS_END images (omega arith))) counts

  beside_alike : AreAlike older place.at images file c
  beside_alike =
      let gate = gate_before older place images pages file has in
      let from = gate_from older place images pages file has in
      record {
        journal =
            beside.same older.journal_at (place.at + 1 - older.journal_at) (omega (arith, from, gate_within older place images pages file has))
            (in_front older.journal_at (place.at + 1 - older.journal_at) images (omega (arith, from, gate, has.form.region)));
        pages = λ page within none. beside.same (place_at page) PAGE_LEN within (missing_misses page images none);
      }

  pub beside_stands : StandIn older place images pages c
  beside_stands = alike older place images pages file has c beside_alike

-- The first gate of the other region is written.
module _ (older : Header) (place : Journal) (images : List Image) (pages : List Entries) (file c : List ℕ) (has : StandIn older place images pages file)
    (h : Header) (next : IsNext older h) (torn : Torn h.journal_at 1 file c) where
  gate_counts : Counts file older → Counts c older
  gate_counts counts =
      counts_front file c older
      (torn_apart h.journal_at 1 0 SLOTS_END file c torn
      (inl (omega (arith, next.pages.region), omega (arith, has.form.region, gate_from older place images pages file has, gate_within older place images pages file has)))) counts

  gate_apart : ((older.journal_at + (place.at + 1 - older.journal_at) ≤ h.journal_at) × (older.journal_at + (place.at + 1 - older.journal_at) ≤ length file)) ⊎ (h.journal_at + 1 ≤ older.journal_at)
  gate_apart =
      let gate = gate_before older place images pages file has in
      let from = gate_from older place images pages file has in
      let inside = gate_within older place images pages file has in
      ⊎_elim
      (λ (first : (older.journal_at ≡ REGION_0) × (older.journal_end ≡ REGION_1)).
      inl (omega (arith, first.0, first.1, gate, from, next.other, next.pages.region), omega (arith, from, inside)))
      (λ (second : (older.journal_at ≡ REGION_1) × (older.journal_end ≡ PAGES_AT)). inr (omega (arith, second.0, next.other, next.pages.region)))
      has.form.region

  gate_pages : HaveSamePages images file c
  gate_pages page within none = torn_apart h.journal_at 1 (place_at page) PAGE_LEN file c torn (inr (omega (arith, next.pages.region)))

  gate_stands : StandIn older place images pages c
  gate_stands =
      alike older place images pages file has c
      (record { journal = torn_apart h.journal_at 1 older.journal_at (place.at + 1 - older.journal_at) file c torn gate_apart; pages = gate_pages })

-- All images are in their places, and the gate is shut.
module _ (older : Header) (place : Journal) (images : List Image) (pages : List Entries) (file middle : List ℕ) (has : StandIn older place images pages file) (placed : ArePlaced images file middle)
    (h : Header) (next : IsNext older h) (long : h.body_len ≡ length pages) where
  abbrev staged : List ℕ
  staged = written_over middle h.journal_at (SHUT ∷ [])

  staged_torn : Torn h.journal_at 1 middle staged
  staged_torn = written-torn h.journal_at (SHUT ∷ []) middle

  shut_is : 0 ≢ OPEN
  shut_is = omega arith

  empty_journal : IsJournal h.journal_at h.journal_end [] staged
  empty_journal =
      journal_spelled h.journal_at h.journal_end [] 0 (drop (h.journal_at + 1) middle) staged (wrote_here h.journal_at (SHUT ∷ []) middle) tt shut_is (omega (arith, next.pages.region))

  -- where a page had an image its place has the bytes of this now, and else those that it had
  placed_bytes : (page : ℕ) (es : Entries) (is : HasPage older images file page es) (found : Option (List ℕ)) → image_of images page ≡ found → in_place middle page ≡ is.bytes
  placed_bytes page es is (Some used) found =
      found_all (λ (i : Image). in_place middle i.0 ≡ filled i.1) page used images placed.each found ∙ bytes_of_image older images file page es is used found
  placed_bytes page es is None found =
      placed.beside.same (place_at page) PAGE_LEN (place_inside older has.form images file page es is found) (missing_misses page images found)
      ∙ (bytes_in_place older has.form images file page es is found).1

  staged_bytes : (page : ℕ) (es : Entries) (is : HasPage older images file page es) → in_place staged page ≡ is.bytes
  staged_bytes page es is =
      torn_apart h.journal_at 1 (place_at page) PAGE_LEN middle staged staged_torn (inr (omega (arith, next.pages.region)))
      ∙ placed_bytes page es is (image_of images page) refl

  staged_page : (n : ℕ) (es : Entries) → slice_get pages n ≡ Some es → HasPage h [] staged (0 + n) es
  staged_page n es here =
      let is = page_among older images file 0 pages n es has.each here in
      let below : 0 + n < h.body_len = omega (arith, long, slice_get_within pages n es here) in
      has_in_place h [] staged (0 + n) es next.pages refl (lt-ltb (0 + n) h.body_len below) (subst (λ (l : List ℕ). IsPage PAGE_LEN es l) (sym (staged_bytes (0 + n) es is)) is.form)

  pub staged_next : StandIn h (empty_under h) [] pages staged
  staged_next =
      let start : h.journal_at ≡ gate_behind h.journal_at [] = omega arith in
      record {
        form = next.pages;
        over = record { frames = []; journal = empty_journal; overlays = []; payloads = tt; laid = refl };
        gate = ap (λ (k : ℕ). record { at = k; end = h.journal_end }) start;
        count = sym long;
        each = pages_among h [] staged 0 pages staged_page;
        apart = has.apart;
      }

-- What a stop leaves in each step, from a file that stands.
module _ (older : Header) (place : Journal) (images : List Image) (pages : List Entries) (old : View) (stand : StandUnder older place images pages old) where
  pub images_leave : (c o : List ℕ) → LeavesBeside images stand.file old c o → LeavesPages older.format pages old c o
  images_leave c o left = record {
    means =
        means_in older place images pages c (beside_stands older place images pages stand.file c stand.has left.beside)
        (beside_counts older place images pages stand.file c stand.has left.beside stand.counts);
    text = left.text;
  }

  -- the images are in their places
  module _ (middle : List ℕ) (placed : ArePlaced images stand.file middle) (h : Header) (next : IsNext older h) where
    middle_stands : StandIn older place images pages middle
    middle_stands = beside_stands older place images pages stand.file middle stand.has placed.beside

    middle_counts : Counts middle older
    middle_counts = beside_counts older place images pages stand.file middle stand.has placed.beside stand.counts

    pub gate_leaves : (mid : View) → mid.text ≡ old.text → (c o : List ℕ) → LeavesTorn h.journal_at 1 middle mid c o → LeavesPages older.format pages old c o
    gate_leaves mid same c o left = record {
      means =
          means_in older place images pages c (gate_stands older place images pages middle c middle_stands h next left.0)
          (gate_counts older place images pages middle c middle_stands h next left.0 middle_counts);
      text = sym same ∙ left.1;
    }

    pub both_stand : (new : View) → h.body_len ≡ length pages → Stands (written_over middle h.journal_at (SHUT ∷ [])) new → BothStand older place images h pages new
    both_stand new long stands =
        let c = written_over middle h.journal_at (SHUT ∷ []) in
        let torn : Torn h.journal_at 1 middle c = written-torn h.journal_at (SHUT ∷ []) middle in
        record {
          stand = record {
            file = c;
            stands = stands;
            counts = gate_counts older place images pages middle c middle_stands h next torn middle_counts;
            has = gate_stands older place images pages middle c middle_stands h next torn;
          };
          next = staged_next older place images pages stand.file middle stand.has placed h next long;
        }

-- The header is changed.
module _ (older : Header) (place : Journal) (images : List Image) (h : Header) (pages : List Entries) (mid : View) (both : BothStand older place images h pages mid) (next : IsNext older h) where
  abbrev file : List ℕ
  file = both.stand.file

  pub may_replace : MayReplace file older h
  may_replace = record {
    long =
        omega (
          arith,
          both.stand.has.form.region,
          gate_from older place images pages file both.stand.has,
          gate_within older place images pages file both.stand.has,
        );
    counts = both.stand.counts;
    rules = next.rules;
    beside = next.beside;
    next = next.next;
  }

  -- while it is changed either header counts, and both have the same pages
  pub header_leaves : (old : View) → mid.text ≡ old.text → (c o : List ℕ) → LeavesHeader file older h mid c o → LeavesPages older.format pages old c o
  header_leaves old same c o left = record {
    means = ⊎_elim
        (λ (was : Counts c older).
        means_in older place images pages c (alike older place images pages file both.stand.has c (alike_behind older place.at images file c both.stand.has.form left.same)) was)
        (λ (now : Counts c h).
        subst (λ (f : ℕ). PagesMeanIn f c (gathered [] pages)) next.format
        (means_in h (empty_under h) [] pages c (alike h (empty_under h) [] pages file both.next c (alike_behind h h.journal_at [] file c next.pages left.same)) now))
        left.counts;
    text = sym same ∙ left.text;
  }

  -- so a stop leaves the pages before the change and in it
  pub change_leaves : (old new : View) → mid.text ≡ old.text → LeavesOnly old mid (LeavesPages older.format pages old) → LeavesOnly mid new (LeavesHeader file older h mid) → LeavesOnly old new (LeavesPages older.format pages old)
  change_leaves old new same before change =
      joined old mid new (LeavesPages older.format pages old) before (weaker mid new (LeavesHeader file older h mid) (LeavesPages older.format pages old) (header_leaves old same) change)

  -- and then the new one does
  pub moved_over : (new : View) (c : List ℕ) → Stands c new → IsChanged file h c → StandUnder h (empty_under h) [] pages new
  moved_over new c stands changed = record {
    file = c;
    stands = stands;
    counts = changed.counts;
    has = alike h (empty_under h) [] pages file both.next c (alike_behind h h.journal_at [] file c next.pages changed.same);
  }
