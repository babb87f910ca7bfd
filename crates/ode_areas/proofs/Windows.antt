-- What an image stands for rests on its slots and on the bytes from the body's start to the journal's last gate.
use Rattle.std.proofs.Common.{◌≡◌, ◌≢◌, ◌≤◌, ◌⊎◌, inl, inr, ⊎_elim, ℕ, ◌+◌, ◌-◌, List, [], ◌∷◌, ◌++◌, length, take, drop, refl, sym, ◌∙◌, ap, subst, arith}
use Rattle.std.proofs.lemmas.List.{drop-drop, take-take}
use Rattle.ode_host.specs.Host.{Torn}
use Rattle.ode_host.proofs.Bytes.{same_part, torn_apart}
use Rattle.ode_gate.specs.declared.header.Header.{Header}
use Rattle.ode_gate.specs.Headers.{IsOfAreas}
use Rattle.ode_gate.specs.Slots.{Counts}
use Rattle.ode_gate.proofs.Fronts.{counts_front}
use Rattle.ode_gate.specs.declared.places.TheConstants.{AREAS_END, AREA_0, AREA_1, AREA_LEN, SLOTS_END}
use Rattle.ode_journal.specs.Frames.{gate_behind, spelled}
use Rattle.ode_journal.proofs.Windows.{gate_inside, journal_window, size_is}
use Rattle.ode_keep.specs.Entries.{Entries}
use Rattle.ode_areas.specs.Image.{HasMap}
use Rattle.ode_keep.specs.Snapshots.{IsSnapshot}

-- where the last gate of some records stands, and how far they reach
abbrev pub reach : (h : Header) (file : List ℕ) (entries : Entries) → HasMap h file entries → ℕ
reach h file entries has = gate_behind h.journal_at has.frames + 1

-- records of a file are those of another, where both are the same from the body's start to the last gate
module _ (h : Header) (areas : IsOfAreas h) (file c : List ℕ) (entries : Entries) (has : HasMap h file entries) where
  abbrev pub wide : ℕ
  wide = reach h file entries has - h.body_at

  pub has_window : take wide (drop h.body_at c) ≡ take wide (drop h.body_at file) → HasMap h c entries
  has_window same =
      let body : take h.body_len (drop h.body_at c) ≡ take h.body_len (drop h.body_at file) =
      sym (take-take h.body_len wide (drop h.body_at c) (omega (arith, areas.journal)))
      ∙ ap (λ (l : List ℕ). take h.body_len l) same
      ∙ take-take h.body_len wide (drop h.body_at file) (omega (arith, areas.journal)) in
      let size = length (spelled has.frames ++ has.journal.shut.gate ∷ []) in
      let length_is : size ≡ length (spelled has.frames) + 1 = size_is h.journal_at h.journal_end has.frames file c has.journal in
      let part : take size (drop h.body_len (drop h.body_at c)) ≡ take size (drop h.body_len (drop h.body_at file)) =
      same_part wide h.body_len size (drop h.body_at file) (drop h.body_at c) (omega (arith, areas.journal, length_is)) same in
      let at : (l : List ℕ) → drop h.body_len (drop h.body_at l) ≡ drop h.journal_at l =
      λ l. drop-drop h.body_len h.body_at l ∙ ap (λ (k : ℕ). drop k l) (sym areas.journal) in
      record {
        body = has.body;
        snapshot = subst (λ (l : List ℕ). IsSnapshot has.body l) (sym body) has.snapshot;
        frames = has.frames;
        journal =
            journal_window h.journal_at h.journal_end has.frames file c has.journal
            (ap (λ (l : List ℕ). take size l) (sym (at c)) ∙ part ∙ ap (λ (l : List ℕ). take size l) (at file));
        batches = has.batches;
        payloads = has.payloads;
        map = has.map;
      }

  pub has_window-frames : (same : take wide (drop h.body_at c) ≡ take wide (drop h.body_at file)) → (has_window same).frames ≡ has.frames
  unfolding has_window
  has_window-frames same = refl

-- a write into the other area leaves what a header counts and what it has
module _ (h : Header) (areas : IsOfAreas h) (file c : List ℕ) (entries : Entries) (has : HasMap h file entries) (counts : Counts file h)
    (at n : ℕ) (other : at ≢ h.body_at) (is_area : (at ≡ AREA_0) ⊎ (at ≡ AREA_1)) (within : n ≤ AREA_LEN) (torn : Torn at n file c) where
  long : reach h file entries has ≤ length file
  long = gate_inside h.journal_at h.journal_end has.frames file c has.journal

  pub still_counts : Counts c h
  still_counts =
      counts_front file c h (torn_apart at n 0 SLOTS_END file c torn (inl (omega (arith, is_area), omega (arith, long, areas.area, areas.journal)))) counts

  apart : ((h.body_at + wide h areas file c entries has ≤ at) × (h.body_at + wide h areas file c entries has ≤ length file)) ⊎ (at + n ≤ h.body_at)
  apart = ⊎_elim
      (λ (first : (h.body_at ≡ AREA_0) × (h.journal_end ≡ AREA_1)).
      inl (omega (arith, is_area, other, first.0, first.1, has.journal.shut.within, areas.journal), omega (arith, long, areas.journal)))
      (λ (second : (h.body_at ≡ AREA_1) × (h.journal_end ≡ AREAS_END)). inr (omega (arith, is_area, other, second.0, within)))
      areas.area

  pub still_has : HasMap h c entries
  still_has = has_window h areas file c entries has (torn_apart at n h.body_at (wide h areas file c entries has) file c torn apart)
