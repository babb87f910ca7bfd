-- A journal is written into region 0, while a header of area 1 counts.
use Rattle.std.proofs.Common.{◌≡◌, ◌≢◌, ◌+◌, ◌-◌, inl, ℕ, List, [], ◌∷◌, drop, take, refl, sym, ◌∙◌, ap, subst, arith}
use Rattle.std.proofs.lemmas.List.{drop-drop}
use Rattle.ode_areas.specs.Image.{AreasMean, HasMap}
use Rattle.ode_areas.proofs.Windows.{has_window, still_counts, still_has, wide}
use Rattle.ode_gate.specs.declared.gate.TheConstants.{OPEN, SHUT}
use Rattle.ode_gate.specs.declared.header.Header.{Header}
use Rattle.ode_gate.specs.declared.places.TheConstants.{AREA_1, REGION_0, REGION_1}
use Rattle.ode_gate.specs.Headers.{IsOfAreas}
use Rattle.ode_gate.specs.Slots.{Counts}
use Rattle.ode_gate.proofs.Fronts.{counts_front}
use Rattle.ode_host.specs.Host.{LeavesTorn, Stands, Torn, written_over}
use Rattle.ode_host.specs.View.{View}
use Rattle.ode_host.proofs.Bytes.{written-torn, wrote_here}
use Rattle.ode_journal.specs.Appends.{IsBeforeOrAfter, JournalStands, SameOutside}
use Rattle.ode_journal.specs.declared.journal.Journal.{Journal}
use Rattle.ode_journal.specs.Frames.{IsJournal}
use Rattle.ode_journal.proofs.Windows.{journal_spelled}
use Rattle.ode_keep.specs.Entries.{Entries}
use Rattle.ode_migrate.specs.Migrating.{IsStaged, LeavesRecords}

module _ (header : Header) (entries : Entries) (areas : IsOfAreas header) (in_one : header.body_at ≡ AREA_1) (file : List ℕ) (counts : Counts file header) (has : HasMap header file entries) where
  -- ---- the first gate of the region is written

  in_other : REGION_0 ≢ header.body_at
  in_other same = omega (arith, same, in_one)

  gate_counts : (c : List ℕ) → Torn REGION_0 1 file c → Counts c header
  gate_counts c torn = still_counts header areas file c entries has counts REGION_0 1 in_other (inl refl) (omega arith) torn

  gate_has : (c : List ℕ) → Torn REGION_0 1 file c → HasMap header c entries
  gate_has c torn = still_has header areas file c entries has counts REGION_0 1 in_other (inl refl) (omega arith) torn

  pub gate_leaves : (old : View) (c o : List ℕ) → LeavesTorn REGION_0 1 file old c o → LeavesRecords entries old c o
  gate_leaves old c o left = record {
    means = let m : AreasMean c entries = record { header = header; counts = gate_counts c left.0; areas = areas; has = gate_has c left.0 } in inl m;
    text = left.1;
  }

  abbrev pub gated : List ℕ
  gated = written_over file REGION_0 (SHUT ∷ [])

  gated_torn : Torn REGION_0 1 file gated
  gated_torn = written-torn REGION_0 (SHUT ∷ []) file

  pub gated_counts : Counts gated header
  gated_counts = gate_counts gated gated_torn

  pub gated_has : HasMap header gated entries
  gated_has = gate_has gated gated_torn

  shut_is : 0 ≢ OPEN
  shut_is = omega arith

  pub gate_stands : (view : View) → Stands gated view → JournalStands REGION_0 [] gated (record { at = REGION_0; end = REGION_1 }) view
  gate_stands view stands = record {
    stands = stands;
    has = journal_spelled REGION_0 REGION_1 [] 0 (drop (REGION_0 + 1) file) gated (wrote_here REGION_0 (SHUT ∷ []) file) tt shut_is (omega arith);
    place = omega arith;
  }

  -- ---- what stands outside the region is all that the records rest on

  outside_counts : (c : List ℕ) → SameOutside REGION_0 REGION_1 file c → Counts c header
  outside_counts c same = counts_front file c header same.before counts

  outside_from : (c : List ℕ) → SameOutside REGION_0 REGION_1 file c → drop header.body_at c ≡ drop header.body_at file
  outside_from c same =
      let is : header.body_at ≡ REGION_1 + (AREA_1 - REGION_1) = omega (arith, in_one) in
      ap (λ (k : ℕ). drop k c) is ∙ sym (drop-drop (AREA_1 - REGION_1) REGION_1 c) ∙ ap (λ (l : List ℕ). drop (AREA_1 - REGION_1) l) same.behind
      ∙ drop-drop (AREA_1 - REGION_1) REGION_1 file ∙ ap (λ (k : ℕ). drop k file) (sym is)

  outside_has : (c : List ℕ) → SameOutside REGION_0 REGION_1 file c → HasMap header c entries
  outside_has c same = has_window header areas file c entries has (ap (λ (l : List ℕ). take (wide header areas file c entries has) l) (outside_from c same))

  -- ---- a frame is added

  pub frame_leaves : (old : View) (payload c o : List ℕ) → IsBeforeOrAfter REGION_0 REGION_1 [] payload file old c o → LeavesRecords entries old c o
  frame_leaves old payload c o left = record {
    means = let m : AreasMean c entries = record { header = header; counts = outside_counts c left.outside; areas = areas; has = outside_has c left.outside } in inl m;
    text = left.text;
  }

  pub frame_stands : (payload next : List ℕ) (place : Journal) (new : View) → place.end ≡ REGION_1 → JournalStands REGION_0 (payload ∷ []) next place new → SameOutside REGION_0 REGION_1 file next
      → IsStaged header entries payload new
  frame_stands payload next place new end is same = record {
    stand = record {
      file = next;
      stands = is.stands;
      counts = outside_counts next same;
      areas = areas;
      in_one = in_one;
      has = outside_has next same;
    };
    journal = subst (λ (e : ℕ). IsJournal REGION_0 e (payload ∷ []) next) end is.has;
  }

-- what leaves the records leaves them where the text was the same before
pub text_back : (entries : Entries) (old mid : View) → mid.text ≡ old.text → (c o : List ℕ) → LeavesRecords entries mid c o → LeavesRecords entries old c o
text_back entries old mid same c o left = record { means = left.means; text = sym same ∙ left.text }
