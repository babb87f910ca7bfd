-- The three writes that may come before a commit's end, and what a stop leaves in each.
use Rattle.std.proofs.Common.{◌≡◌, ◌≢◌, ◌≤◌, ◌⊎◌, inl, inr, ⊎_elim, ℕ, ◌+◌, ◌-◌, List, [], ◌∷◌, ◌++◌, length, take, drop, refl, sym, ◌∙◌, ap, subst, arith, append_assoc, length-append}
use Rattle.std.proofs.lemmas.List.{take_at, drop_at, drop-drop}
use Rattle.ode_host.specs.View.{View}
use Rattle.ode_host.specs.Host.{LeavesOnly, LeavesTorn, Stands, Torn, written_over}
use Rattle.ode_host.proofs.Bytes.{length-written_over, same_part, written-torn, wrote_here}
use Rattle.ode_host.proofs.Moments.{joined, weaker}
use Rattle.ode_gate.specs.declared.header.Header.{Header}
use Rattle.ode_gate.specs.Changes.{IsChanged, IsSameBehind, LeavesHeader, MayReplace}
use Rattle.ode_gate.specs.declared.gate.TheConstants.{OPEN}
use Rattle.ode_gate.specs.Headers.{IsOfAreas}
use Rattle.ode_gate.specs.Slots.{Counts}
use Rattle.ode_gate.proofs.Fronts.{counts_front}
use Rattle.ode_gate.specs.declared.places.TheConstants.{AREA_0, AREA_1, AREA_LEN, SLOTS_END}
use Rattle.ode_journal.specs.declared.journal.Journal.{Journal}
use Rattle.ode_journal.specs.Appends.{IsBeforeOrAfter, JournalStands, SameOutside}
use Rattle.ode_journal.specs.Frames.{IsJournal, spelled}
use Rattle.ode_journal.proofs.Histories.{in_turn-push, payloads_push}
use Rattle.ode_keep.specs.Entries.{Changes, Entries, applied}
use Rattle.ode_keep.specs.Keeping.{LeavesOldOrNew}
use Rattle.ode_value.specs.Records.{snapshot}
use Rattle.ode_areas.specs.Image.{AreasMean, HasMap}
use Rattle.ode_keep.specs.Payloads.{IsPayload}
use Rattle.ode_keep.specs.Snapshots.{FitsSnapshot, IsSnapshot}
use Rattle.ode_areas.specs.Steps.{LeavesMap, MovesOver, StandUnder, empty_under}
use Rattle.ode_journal.proofs.Windows.{journal_spelled}
use Rattle.ode_areas.proofs.Windows.{has_window, has_window-frames, still_counts, still_has, wide}

area_of : (h : Header) → IsOfAreas h → (h.body_at ≡ AREA_0) ⊎ (h.body_at ≡ AREA_1)
area_of h areas = ⊎_elim (λ first. inl first.0) (λ second. inr second.0) areas.area

-- A snapshot of the records behind some changes, in the other area, and the header's change.
module _ (older h : Header) (place : Journal) (entries : Entries) (changes : Changes) (bytes : List ℕ) (old : View)
    (stand : StandUnder older place entries old) (fits : FitsSnapshot (applied changes entries)) (moves : MovesOver older (applied changes entries) h bytes) where
  abbrev behind : Entries
  behind = applied changes entries

  abbrev file : List ℕ
  file = stand.file

  abbrev staged : List ℕ
  staged = written_over file h.body_at bytes

  abbrev rest : List ℕ
  rest = drop (h.body_at + length bytes) file

  size : length bytes ≡ h.body_len + 1
  size = omega (arith, ap length moves.spelled, length-append (snapshot behind) (0 ∷ []), moves.long)

  short : length bytes ≤ AREA_LEN
  short = omega (arith, size, moves.follows.areas.journal, moves.follows.areas.room, moves.follows.areas.area)

  torn_means : (c : List ℕ) → Torn h.body_at (length bytes) file c → AreasMean c entries
  torn_means c torn = record {
    header = older;
    counts = still_counts older stand.areas file c entries stand.has stand.counts h.body_at (length bytes) moves.follows.other (area_of h moves.follows.areas) short torn;
    areas = stand.areas;
    has = still_has older stand.areas file c entries stand.has stand.counts h.body_at (length bytes) moves.follows.other (area_of h moves.follows.areas) short torn;
  }

  -- while the snapshot is written the old header counts
  pub snapshot_leaves : (c o : List ℕ) → LeavesTorn h.body_at (length bytes) file old c o → LeavesOldOrNew AreasMean entries changes old c o
  snapshot_leaves c o left = record { whole = inl (torn_means c left.0); text = left.1 }

  staged_torn : Torn h.body_at (length bytes) file staged
  staged_torn = written-torn h.body_at bytes file

  pub staged_counts : Counts staged older
  staged_counts = still_counts older stand.areas file staged entries stand.has stand.counts h.body_at (length bytes) moves.follows.other (area_of h moves.follows.areas) short staged_torn

  pub staged_old : HasMap older staged entries
  staged_old = still_has older stand.areas file staged entries stand.has stand.counts h.body_at (length bytes) moves.follows.other (area_of h moves.follows.areas) short staged_torn

  staged_at : drop h.body_at staged ≡ snapshot behind ++ 0 ∷ rest
  staged_at =
      wrote_here h.body_at bytes file ∙ ap (λ (l : List ℕ). l ++ rest) moves.spelled
      ∙ append_assoc (snapshot behind) (0 ∷ []) rest

  staged_body : take h.body_len (drop h.body_at staged) ≡ snapshot behind
  staged_body = ap (λ (l : List ℕ). take h.body_len l) staged_at ∙ take_at (snapshot behind) (0 ∷ rest) h.body_len (sym moves.long)

  staged_gate : drop h.journal_at staged ≡ 0 ∷ rest
  staged_gate =
      ap (λ (k : ℕ). drop k staged) moves.follows.areas.journal ∙ sym (drop-drop h.body_len h.body_at staged)
      ∙ ap (λ (l : List ℕ). drop h.body_len l) staged_at ∙ drop_at (snapshot behind) (0 ∷ rest) h.body_len (sym moves.long)

  shut_zero : 0 ≢ OPEN
  shut_zero = omega arith

  -- under the new header the snapshot has the records behind the changes
  pub staged_new : HasMap h staged behind
  staged_new = record {
    body = behind;
    snapshot = record { spelled = staged_body; fits = fits };
    frames = [];
    journal = journal_spelled h.journal_at h.journal_end [] 0 rest staged staged_gate tt shut_zero (omega (arith, moves.follows.areas.room));
    batches = [];
    payloads = tt;
    map = refl;
  }

  long : SLOTS_END ≤ length staged
  long = omega (arith, length-written_over h.body_at bytes file, size, area_of h moves.follows.areas)

  pub may_replace : MayReplace staged older h
  may_replace = record {
    long = long;
    counts = staged_counts;
    rules = moves.follows.rules;
    beside = moves.follows.beside;
    next = moves.follows.next;
  }

  same_from : (c : List ℕ) (at : ℕ) → SLOTS_END ≤ at → IsSameBehind staged c → drop at c ≡ drop at staged
  same_from c at behind same =
      let is : SLOTS_END + (at - SLOTS_END) ≡ at = omega arith in
      ap (λ (k : ℕ). drop k c) (sym is) ∙ sym (drop-drop (at - SLOTS_END) SLOTS_END c) ∙ ap (λ (l : List ℕ). drop (at - SLOTS_END) l) same.behind
      ∙ drop-drop (at - SLOTS_END) SLOTS_END staged ∙ ap (λ (k : ℕ). drop k staged) is

  old_still : (c : List ℕ) → IsSameBehind staged c → HasMap older c entries
  old_still c same =
      has_window older stand.areas staged c entries staged_old
      (ap (λ (l : List ℕ). take (wide older stand.areas staged c entries staged_old) l) (same_from c older.body_at (omega (arith, area_of older stand.areas)) same))

  new_still : (c : List ℕ) → IsSameBehind staged c → HasMap h c behind
  new_still c same =
      has_window h moves.follows.areas staged c behind staged_new
      (ap (λ (l : List ℕ). take (wide h moves.follows.areas staged c behind staged_new) l) (same_from c h.body_at (omega (arith, area_of h moves.follows.areas)) same))

  no_frames : (c : List ℕ) (same : IsSameBehind staged c) → (new_still c same).frames ≡ []
  unfolding new_still staged_new
  no_frames c same =
      has_window-frames h moves.follows.areas staged c behind staged_new
      (ap (λ (l : List ℕ). take (wide h moves.follows.areas staged c behind staged_new) l) (same_from c h.body_at (omega (arith, area_of h moves.follows.areas)) same))

  -- while the header is changed either counts
  pub header_leaves : (mid : View) → mid.text ≡ old.text → (c o : List ℕ) → LeavesHeader staged older h mid c o → LeavesOldOrNew AreasMean entries changes old c o
  header_leaves mid same c o left = record {
    whole = ⊎_elim
        (λ (was : Counts c older). let m : AreasMean c entries = record { header = older; counts = was; areas = stand.areas; has = old_still c left.same } in inl m)
        (λ (now : Counts c h). let m : AreasMean c behind = record { header = h; counts = now; areas = moves.follows.areas; has = new_still c left.same } in inr m)
        left.counts;
    text = sym same ∙ left.text;
  }

  -- so a stop leaves the records before or those behind while the snapshot is written and in the change
  pub move_leaves : (mid new : View) → mid.text ≡ old.text → LeavesOnly old mid (LeavesTorn h.body_at (length bytes) file old) → LeavesOnly mid new (LeavesHeader staged older h mid)
      → LeavesOnly old new (LeavesOldOrNew AreasMean entries changes old)
  move_leaves mid new same write change =
      joined old mid new (LeavesOldOrNew AreasMean entries changes old) (weaker old mid (LeavesTorn h.body_at (length bytes) file old) (LeavesOldOrNew AreasMean entries changes old) snapshot_leaves write)
      (weaker mid new (LeavesHeader staged older h mid) (LeavesOldOrNew AreasMean entries changes old) (header_leaves mid same) change)

  -- and then the new one does
  pub moved_over : (new : View) (next : List ℕ) → Stands next new → IsChanged staged h next → StandUnder h (empty_under h) behind new
  moved_over new next stands changed = record {
    file = next;
    counts = changed.counts;
    areas = moves.follows.areas;
    has = new_still next changed.same;
    journal = record { stands = stands; has = (new_still next changed.same).journal; place = omega (arith, ap (λ (l : List (List ℕ)). length (spelled l)) (no_frames next changed.same)) };
    end = refl;
  }

-- A frame more.
module _ (h : Header) (place : Journal) (entries : Entries) (changes : Changes) (payload : List ℕ) (old : View)
    (stand : StandUnder h place entries old) (is : IsPayload changes payload) where
  front_counts : (c : List ℕ) → take h.journal_at c ≡ take h.journal_at stand.file → Counts c h
  front_counts c same = counts_front stand.file c h (same_part h.journal_at 0 SLOTS_END stand.file c (omega (arith, area_of h stand.areas, stand.areas.journal)) same) stand.counts

  body_same : (c : List ℕ) → take h.journal_at c ≡ take h.journal_at stand.file → IsSnapshot stand.has.body (take h.body_len (drop h.body_at c))
  body_same c same =
      subst (λ (l : List ℕ). IsSnapshot stand.has.body l) (sym (same_part h.journal_at h.body_at h.body_len stand.file c (omega (arith, stand.areas.journal)) same)) stand.has.snapshot

  before : (c : List ℕ) → take h.journal_at c ≡ take h.journal_at stand.file → IsJournal h.journal_at h.journal_end stand.has.frames c → HasMap h c entries
  before c same journal = record {
    body = stand.has.body;
    snapshot = body_same c same;
    frames = stand.has.frames;
    journal = journal;
    batches = stand.has.batches;
    payloads = stand.has.payloads;
    map = stand.has.map;
  }

  after : (c : List ℕ) → take h.journal_at c ≡ take h.journal_at stand.file → IsJournal h.journal_at h.journal_end (stand.has.frames ++ payload ∷ []) c → HasMap h c (applied changes entries)
  after c same journal = record {
    body = stand.has.body;
    snapshot = body_same c same;
    frames = stand.has.frames ++ payload ∷ [];
    journal = journal;
    batches = stand.has.batches ++ changes ∷ [];
    payloads = payloads_push IsPayload stand.has.batches stand.has.frames changes payload stand.has.payloads is;
    map = ap (applied changes) stand.has.map ∙ sym (in_turn-push applied stand.has.batches changes stand.has.body);
  }

  -- while the frame is added
  pub frame_leaves : (c o : List ℕ) → IsBeforeOrAfter h.journal_at place.end stand.has.frames payload stand.file old c o → LeavesOldOrNew AreasMean entries changes old c o
  frame_leaves c o left =
      let same : take h.journal_at c ≡ take h.journal_at stand.file = left.outside.before in
      record {
        whole = ⊎_elim
            (λ (was : IsJournal h.journal_at place.end stand.has.frames c).
            let j : IsJournal h.journal_at h.journal_end stand.has.frames c = subst (λ (e : ℕ). IsJournal h.journal_at e stand.has.frames c) stand.end was in
            let m : AreasMean c entries = record { header = h; counts = front_counts c same; areas = stand.areas; has = before c same j } in
            inl m)
            (λ (now : IsJournal h.journal_at place.end (stand.has.frames ++ payload ∷ []) c).
            let j : IsJournal h.journal_at h.journal_end (stand.has.frames ++ payload ∷ []) c = subst (λ (e : ℕ). IsJournal h.journal_at e (stand.has.frames ++ payload ∷ []) c) stand.end now in
            let m : AreasMean c (applied changes entries) = record { header = h; counts = front_counts c same; areas = stand.areas; has = after c same j } in
            inr m)
            left.whole;
        text = left.text;
      }

  -- and then it is there
  pub frame_added : (now : Journal) (new : View) (next : List ℕ) → now.end ≡ place.end → JournalStands h.journal_at (stand.has.frames ++ payload ∷ []) next now new
      → SameOutside h.journal_at place.end stand.file next → StandUnder h now (applied changes entries) new
  unfolding after
  frame_added now new next end stands outside =
      let ends : now.end ≡ h.journal_end = end ∙ stand.end in
      let j : IsJournal h.journal_at h.journal_end (stand.has.frames ++ payload ∷ []) next =
      subst (λ (e : ℕ). IsJournal h.journal_at e (stand.has.frames ++ payload ∷ []) next) ends stands.has in
      record {
        file = next;
        counts = front_counts next outside.before;
        areas = stand.areas;
        has = after next outside.before j;
        journal = stands;
        end = ends;
      }

-- without changes the same records are left
pub same_left : (entries : Entries) (old : View) (c o : List ℕ) → LeavesOldOrNew AreasMean entries [] old c o → LeavesMap entries old c o
same_left entries old c o left = record { means = ⊎_elim (λ (m : AreasMean c entries). m) (λ (m : AreasMean c entries). m) left.whole; text = left.text }

-- and so the old or the new
pub old_left : (entries : Entries) (changes : Changes) (old : View) (c o : List ℕ) → LeavesOldOrNew AreasMean entries [] old c o → LeavesOldOrNew AreasMean entries changes old c o
old_left entries changes old c o left = record { whole = inl (same_left entries old c o left).means; text = left.text }

-- and so it is where the text was the same before
pub text_back : (entries : Entries) (changes : Changes) (old mid : View) → mid.text ≡ old.text → (c o : List ℕ) → LeavesOldOrNew AreasMean entries changes mid c o
    → LeavesOldOrNew AreasMean entries changes old c o
text_back entries changes old mid same c o left = record { whole = left.whole; text = sym same ∙ left.text }
