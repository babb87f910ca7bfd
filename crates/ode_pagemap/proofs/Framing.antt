-- A frame is added to a journal of images.
use Rattle.std.proofs.Common.{◌≡◌, ◌≤◌, inl, inr, ⊎_elim, ℕ, ◌+◌, ◌-◌, List, [], ◌∷◌, ◌++◌, take, drop, refl, sym, ◌∙◌, ap, subst, arith}
use Rattle.std.proofs.lemmas.List.{drop-drop}
use Rattle.ode_gate.specs.declared.header.Header.{Header}
use Rattle.ode_gate.specs.declared.places.TheConstants.{PAGE_LEN, SLOTS_END}
use Rattle.ode_gate.specs.Slots.{Counts}
use Rattle.ode_gate.proofs.Fronts.{counts_front}
use Rattle.ode_host.specs.View.{View}
use Rattle.ode_host.proofs.Bytes.{same_part}
use Rattle.ode_journal.specs.declared.journal.Journal.{Journal}
use Rattle.ode_journal.specs.Appends.{IsBeforeOrAfter, JournalStands, SameOutside}
use Rattle.ode_journal.specs.Frames.{IsJournal, gate_behind}
use Rattle.ode_journal.proofs.Histories.{in_turn-push, payloads_push}
use Rattle.ode_keep.specs.Entries.{Changes, Entries}
use Rattle.ode_keep.specs.Keeping.{LeavesOldOrNew}
use Rattle.ode_paging.specs.Gathering.{gathered}
use Rattle.ode_paging.specs.Images.{Image, IsPayload}
use Rattle.ode_paging.specs.Meaning.{HasImages, PagesMeanIn}
use Rattle.ode_paging.specs.Overlays.{laid}
use Rattle.ode_paging.specs.Standing.{HavePages}
use Rattle.ode_pagemap.specs.Alike.{HaveSamePages}
use Rattle.ode_pagemap.specs.Placing.{place_at}
use Rattle.ode_pagemap.specs.Steps.{LeavesPages, Makes, StandIn, StandUnder}
use Rattle.ode_pagemap.proofs.Alikes.{end_is, gate_is, means_in, pages_alike}
use Rattle.ode_pagemap.proofs.Renewing.{renewed_count, renewed_pages}

module _ (h : Header) (place : Journal) (images : List Image) (pages : List Entries) (old : View) (stand : StandUnder h place images pages old) where
  abbrev file : List ℕ
  file = stand.file

  abbrev frames : List (List ℕ)
  frames = stand.has.over.frames

  -- what the journal's writer asks for
  pub journal_stands : JournalStands h.journal_at frames file place old
  journal_stands = record {
    stands = stand.stands;
    has = subst (λ (e : ℕ). IsJournal h.journal_at e frames file) (sym (end_is h place images pages file stand.has)) stand.has.over.journal;
    place = gate_is h place images pages file stand.has;
  }

  -- a file that is the same outside the journal's region
  module _ (c : List ℕ) (outside : SameOutside h.journal_at place.end file c) where
    front_counts : Counts c h
    front_counts = counts_front file c h (same_part h.journal_at 0 SLOTS_END file c (omega (arith, stand.has.form.region)) outside.before) stand.counts

    behind_same : HaveSamePages images file c
    behind_same page within none =
        let end : place.end ≤ place_at page = omega (arith, end_is h place images pages file stand.has, stand.has.form.region) in
        let is : place_at page ≡ place.end + (place_at page - place.end) = omega (arith, end) in
        let part : (l : List ℕ) → drop (place_at page) l ≡ drop (place_at page - place.end) (drop place.end l) =
        λ l. ap (λ (k : ℕ). drop k l) is ∙ sym (drop-drop (place_at page - place.end) place.end l) in
        ap (λ (l : List ℕ). take PAGE_LEN l) (part c ∙ ap (λ (l : List ℕ). drop (place_at page - place.end) l) outside.behind ∙ sym (part file))

    still_have : HavePages h images c 0 pages
    still_have = pages_alike h images file c pages stand.has.form behind_same stand.has.each

    before : IsJournal h.journal_at place.end frames c → StandIn h place images pages c
    before journal = record {
      form = stand.has.form;
      over = record {
        frames = frames;
        journal = subst (λ (e : ℕ). IsJournal h.journal_at e frames c) (end_is h place images pages file stand.has) journal;
        overlays = stand.has.over.overlays;
        payloads = stand.has.over.payloads;
        laid = stand.has.over.laid;
      };
      gate = stand.has.gate;
      count = stand.has.count;
      each = still_have;
      apart = stand.has.apart;
    }

    -- the new frame's images renew some pages
    module _ (changes : Changes) (over : List Image) (payload : List ℕ) (later : List Entries) (makes : Makes changes over payload pages later) where
      overlaid : IsJournal h.journal_at place.end (frames ++ payload ∷ []) c → HasImages h c (laid over images)
      overlaid journal = record {
        frames = frames ++ payload ∷ [];
        journal = subst (λ (e : ℕ). IsJournal h.journal_at e (frames ++ payload ∷ []) c) (end_is h place images pages file stand.has) journal;
        overlays = stand.has.over.overlays ++ over ∷ [];
        payloads = payloads_push IsPayload stand.has.over.overlays frames over payload stand.has.over.payloads makes.payload_is;
        laid = ap (λ (l : List Image). laid over l) stand.has.over.laid ∙ sym (in_turn-push laid stand.has.over.overlays over []);
      }

      after : (now : Journal) → IsJournal h.journal_at place.end (frames ++ payload ∷ []) c → now.at ≡ gate_behind h.journal_at (frames ++ payload ∷ []) → now.end ≡ place.end
          → StandIn h now (laid over images) later c
      unfolding overlaid
      after now journal at end = record {
        form = stand.has.form;
        over = overlaid journal;
        gate =
            ap (λ (k : ℕ). record { at = k; end = now.end }) at
            ∙ ap (λ (k : ℕ). record { at = gate_behind h.journal_at (frames ++ payload ∷ []); end = k }) (end ∙ end_is h place images pages file stand.has);
        count = renewed_count h stand.has.form images over pages later c makes.payload_is.rising makes.renewed still_have stand.has.count;
        each = renewed_pages h stand.has.form images over pages later c makes.payload_is.rising makes.renewed still_have;
        apart = makes.renewed.apart;
      }

  module _ (changes : Changes) (over : List Image) (payload : List ℕ) (later : List Entries) (makes : Makes changes over payload pages later) where
    -- while the frame is added
    pub frame_leaves : (c o : List ℕ) → IsBeforeOrAfter h.journal_at place.end frames payload file old c o → LeavesOldOrNew (PagesMeanIn h.format) (gathered [] pages) changes old c o
    frame_leaves c o left =
        let counts : Counts c h = front_counts c left.outside in
        record {
          whole = ⊎_elim
              (λ (was : IsJournal h.journal_at place.end frames c). inl (means_in h place images pages c (before c left.outside was) counts))
              (λ (now : IsJournal h.journal_at place.end (frames ++ payload ∷ []) c).
              let longer : Journal = record { at = gate_behind h.journal_at (frames ++ payload ∷ []); end = place.end } in
              let stands : StandIn h longer (laid over images) later c = after c left.outside changes over payload later makes longer now refl refl in
              inr (subst (λ (l : Entries). PagesMeanIn h.format c l) (sym makes.map) (means_in h longer (laid over images) later c stands counts)))
              left.whole;
          text = left.text;
        }

    -- and then it is there
    pub frame_added : (now : Journal) (new : View) (c : List ℕ) → now.end ≡ place.end → JournalStands h.journal_at (frames ++ payload ∷ []) c now new → SameOutside h.journal_at place.end file c
        → StandUnder h now (laid over images) later new
    frame_added now new c end stands outside = record {
      file = c;
      stands = stands.stands;
      counts = front_counts c outside;
      has =
          after c outside changes over payload later makes now
          (subst (λ (e : ℕ). IsJournal h.journal_at e (frames ++ payload ∷ []) c) end stands.has) stands.place end;
    }

-- what leaves the pages leaves the old records or the new
pub old_left : (format : ℕ) (pages : List Entries) (changes : Changes) (old : View) (c o : List ℕ) → LeavesPages format pages old c o → LeavesOldOrNew (PagesMeanIn format) (gathered [] pages) changes old c o
old_left format pages changes old c o left = record { whole = inl left.means; text = left.text }

-- and so it is where the text was the same before
pub text_back : (format : ℕ) (entries : Entries) (changes : Changes) (old mid : View) → mid.text ≡ old.text → (c o : List ℕ) → LeavesOldOrNew (PagesMeanIn format) entries changes mid c o
    → LeavesOldOrNew (PagesMeanIn format) entries changes old c o
text_back format entries changes old mid same c o left = record { whole = left.whole; text = sym same ∙ left.text }
