-- The header is changed from area 1 to pages in region 0.
use Rattle.std.proofs.Common.{◌≡◌, ◌≤◌, ◌+◌, ◌-◌, inl, inr, ⊎_elim, ℕ, List, [], ◌∷◌, take, drop, refl, sym, ◌∙◌, ap, arith}
use Rattle.std.proofs.lemmas.List.{drop-drop}
use Rattle.ode_areas.specs.Image.{AreasMean, HasMap}
use Rattle.ode_areas.proofs.Fitting.{map_fits}
use Rattle.ode_areas.proofs.Windows.{has_window, wide}
use Rattle.ode_cutting.specs.Cutting.{SpellsPagesOf}
use Rattle.ode_gate.specs.Changes.{IsChanged, IsSameBehind, LeavesHeader, MayReplace}
use Rattle.ode_gate.specs.declared.header.Header.{Header}
use Rattle.ode_gate.specs.declared.places.TheConstants.{REGION_0, REGION_1, SLOTS_END}
use Rattle.ode_gate.specs.Slots.{Counts}
use Rattle.ode_host.specs.Host.{Stands}
use Rattle.ode_host.specs.View.{View}
use Rattle.ode_journal.specs.Frames.{IsJournal}
use Rattle.ode_journal.proofs.Windows.{gate_inside, journal_window, size}
use Rattle.ode_keep.specs.Entries.{Entries}
use Rattle.ode_paging.specs.Meaning as of_pages
use Rattle.ode_migrate.specs.Migrating.{IsMigratedTo, IsStaged, LeavesRecords, paged}
use Rattle.ode_migrate.proofs.Beside.{is_beside, paged_form, paged_rules}
use Rattle.ode_migrate.proofs.Paged.{cut_has}

module _ (older : Header) (entries : Entries) (payload : List ℕ) (view : View) (staged : IsStaged older entries payload view) (cut : SpellsPagesOf entries payload) where
  abbrev file : List ℕ
  file = staged.stand.file

  pub may_replace : MayReplace file older (paged older)
  may_replace = record {
    long = omega (arith, gate_inside REGION_0 REGION_1 (payload ∷ []) file file staged.journal);
    counts = staged.stand.counts;
    rules = paged_rules older;
    beside = is_beside older.slot;
    next = refl;
  }

  same_from : (c : List ℕ) (at : ℕ) → SLOTS_END ≤ at → IsSameBehind file c → drop at c ≡ drop at file
  same_from c at behind same =
      let is : SLOTS_END + (at - SLOTS_END) ≡ at = omega arith in
      ap (λ (k : ℕ). drop k c) (sym is) ∙ sym (drop-drop (at - SLOTS_END) SLOTS_END c) ∙ ap (λ (l : List ℕ). drop (at - SLOTS_END) l) same.behind
      ∙ drop-drop (at - SLOTS_END) SLOTS_END file ∙ ap (λ (k : ℕ). drop k file) is

  old_still : (c : List ℕ) → IsSameBehind file c → HasMap older c entries
  old_still c same =
      has_window older staged.stand.areas file c entries staged.stand.has
      (ap (λ (l : List ℕ). take (wide older staged.stand.areas file c entries staged.stand.has) l) (same_from c older.body_at (omega (arith, staged.stand.in_one)) same))

  journal_still : (c : List ℕ) → IsSameBehind file c → IsJournal REGION_0 REGION_1 (payload ∷ []) c
  journal_still c same =
      journal_window REGION_0 REGION_1 (payload ∷ []) file c staged.journal
      (ap (λ (l : List ℕ). take (size REGION_0 REGION_1 (payload ∷ []) file c staged.journal) l) (same_from c REGION_0 (omega arith) same))

  new_still : (c : List ℕ) → IsSameBehind file c → of_pages.HasMap (paged older) c entries
  new_still c same = cut_has (paged older) refl c entries payload (map_fits older file entries staged.stand.has) cut (journal_still c same)

  -- while the header is changed either counts, and both have the same records
  pub change_leaves : (old : View) → view.text ≡ old.text → (c o : List ℕ) → LeavesHeader file older (paged older) view c o → LeavesRecords entries old c o
  change_leaves old same c o left = record {
    means = ⊎_elim
        (λ (was : Counts c older). let m : AreasMean c entries = record { header = older; counts = was; areas = staged.stand.areas; has = old_still c left.same } in inl m)
        (λ (now : Counts c (paged older)).
        let m : of_pages.PagesMean c entries = record { header = paged older; counts = now; pages = paged_form older; has = new_still c left.same } in
        inr m)
        left.counts;
    text = sym same ∙ left.text;
  }

  pub changed_to : (new : View) (c : List ℕ) → Stands c new → IsChanged file (paged older) c → IsMigratedTo entries new
  changed_to new c stands changed = record {
    image = c;
    stands = stands;
    migrated = record {
      means = record { header = paged older; counts = changed.counts; pages = paged_form older; has = new_still c changed.same };
      is = refl;
    };
  }
