-- What a file stands for, read and moved, and what the errors of the parts are never.
use Rattle.std.proofs.Common.{◌≡◌, arith, inl, inr, ⊎_elim, ℕ, List, Err, Ok, Result, Some, ap, sym, ◌∙◌, subst}
use Rattle.std.specs.Prelude.{◌⊎◌, IsErrOf}
use Rattle.ode_areas.specs.declared.areas.Areas.{Areas}
use Rattle.ode_areas.specs.Holding.{AreasHold, IsInOne, header_of, held}
use Rattle.ode_areas.specs.Steps.{LeavesMap}
use Rattle.ode_gate.specs.declared.error.GateError.{GateError}
use Rattle.ode_gate.specs.declared.error.GateError.TheVariants as gate
use Rattle.ode_gate.specs.declared.header.Header.{Header}
use Rattle.ode_gate.specs.declared.places.TheConstants.{FORMAT, PAGES, TWO_AREAS}
use Rattle.ode_gate.specs.Headers.{IsHeader, IsOfAreas, IsOfPages}
use Rattle.ode_gate.specs.Slots.{Counts}
use Rattle.ode_gate.proofs.Counting.{one_counts}
use Rattle.ode_host.specs.Host.{LeavesOnly, Looks, Stands}
use Rattle.ode_host.specs.View.{View}
use Rattle.ode_host.proofs.Moments.{looks_on, started}
use Rattle.ode_keep.specs.Entries.{Entries}
use Rattle.ode_keep.specs.Snapshots.{IsSnapshot}
use Rattle.ode_keep.specs.Starting.{Starts}
use Rattle.ode_keep.specs.declared.error.KeepError.{KeepError}
use Rattle.ode_keep.specs.declared.error.KeepError.TheVariants as keep
use Rattle.ode_keep.specs.declared.error.StartError.{StartError}
use Rattle.ode_keep.specs.declared.error.StartError.TheVariants as start
use Rattle.ode_keep.specs.Keeping.{OnDamaged, OnTooLarge}
use Rattle.ode_keeper.specs.Files.{FileMeans}
use Rattle.ode_keeper.specs.OneMap.{never_two}
use Rattle.ode_areas.specs.Image as of_areas
use Rattle.ode_paging.specs.Meaning as of_pages
use Rattle.ode_migrate.specs.Migrating.{IsMigratedTo, LeavesRecords, StandInOne, gate_error, keep_error, start_error}
use Rattle.ode_migrate.specs.declared.error.MigrateError.TheVariants.{Changed, DiskFault}

-- while the disk is left alone a stop leaves the records
pub looks_leave : (old new : View) (file : List ℕ) (entries : Entries) → ((c o : List ℕ) → old.left old.moment c o → old.text ≡ Some o) → Stands file old → FileMeans file entries → Looks old new
    → LeavesOnly old new (LeavesRecords entries old)
looks_leave old new file entries text_stands stands means looks =
    looks_on old old new (LeavesRecords entries old) (started old (LeavesRecords entries old))
    (λ c o left. record { means = subst (λ (f : List ℕ). FileMeans f entries) (sym (stands.only c o left)) means; text = text_stands c o left }) looks

-- what leaves the records of two areas leaves them
pub areas_leave : (entries : Entries) (old mid : View) → mid.text ≡ old.text → (c o : List ℕ) → LeavesMap entries mid c o → LeavesRecords entries old c o
areas_leave entries old mid same c o left = record { means = inl left.means; text = sym same ∙ left.text }

-- a keeper of two areas whose records stand in area 1
pub held_in_one : (keeper : Areas) (view : View) (entries : Entries) → AreasHold keeper view entries → IsInOne keeper → StandInOne (header_of keeper) entries view
held_in_one keeper view entries h one = record { file = h.file; stands = h.journal.stands; counts = h.counts; areas = h.areas; in_one = one; has = h.has }

-- the snapshot of what it has in memory is that of these records
pub held_spelled : (keeper : Areas) (view : View) (entries : Entries) (bytes : List ℕ) → AreasHold keeper view entries → IsSnapshot (held keeper) bytes → IsSnapshot entries bytes
held_spelled keeper view entries bytes h spelled = subst (λ (l : Entries). IsSnapshot l bytes) h.map spelled

-- a start that nothing but the outside keeps back isn't told as a change
pub never_changed : {T : Type 0} (e : StartError) → Starts {T = T} (Err e) → (at : ℕ) → start_error e ≡ Changed at → ⊥
never_changed start.Memory starts at is = cc (is)
never_changed start.DiskFault starts at is = cc (is)
never_changed (start.BadJournal place) starts at is = ⊎_elim (λ ok. cc (ok)) (λ outside. ⊎_elim (λ memory. cc (memory)) (λ fault. cc (fault)) outside) starts
never_changed (start.BadPage page) starts at is = ⊎_elim (λ ok. cc (ok)) (λ outside. ⊎_elim (λ memory. cc (memory)) (λ fault. cc (fault)) outside) starts

-- nor is an error that is neither a size nor a page
pub not_kept : (T : Type 0) (e : KeepError) → OnTooLarge {A = T} (Err e) (λ _. ⊥) → OnDamaged {A = T} (Err e) ⊥ → (at : ℕ) → keep_error e ≡ Changed at → ⊥
not_kept T keep.Memory large damaged at is = cc (is)
not_kept T keep.DiskFault large damaged at is = cc (is)
not_kept T (keep.TooLarge total) large damaged at is = large
not_kept T (keep.Damaged page) large damaged at is = damaged

-- and no more is an error of a header, where one counts
pub not_read : (e : GateError) (h : Header) → IsErrOf {T = Header} (Err e) gate.DiskFault ⊎ (Result.Err e ≡ Ok h) → (at : ℕ) → gate_error e ≡ Changed at → ⊥
not_read e h answer at is = ⊎_elim
    (λ (fault : IsErrOf {T = Header} (Err e) gate.DiskFault). let same : gate.DiskFault ≡ e = cc (fault) in let both : DiskFault ≡ Changed at = ap gate_error same ∙ is in cc (both))
    (λ (found : Result.Err e ≡ Ok h). cc (found))
    answer

-- ---- what a file stands for, by the header that counts

pub under_pages : (file : List ℕ) (entries : Entries) (h : Header) → Counts file h → IsOfPages h → FileMeans file entries → of_pages.HasMap h file entries
under_pages file entries h counts pages (inl a) = absurd (never_two file a.header h a.counts counts a.areas pages)
under_pages file entries h counts pages (inr a) = subst (λ (k : Header). of_pages.HasMap k file entries) (one_counts file a.header h a.counts counts) a.has

pub under_areas : (file : List ℕ) (entries : Entries) (h : Header) → Counts file h → IsOfAreas h → FileMeans file entries → of_areas.HasMap h file entries
under_areas file entries h counts areas (inl a) = subst (λ (k : Header). of_areas.HasMap k file entries) (one_counts file a.header h a.counts counts) a.has
under_areas file entries h counts areas (inr a) = absurd (never_two file h a.header counts a.counts areas a.pages)

-- the layout that a header of neither the last format nor of pages has
pub other_layout : (h : Header) → IsHeader h → (h.layout ≡ PAGES → ⊥) → IsOfAreas h
other_layout h rules other = ⊎_elim (λ (areas : IsOfAreas h). areas) (λ (pages : IsOfPages h). absurd (other pages.layout)) rules.layout

pub pages_layout : (h : Header) → IsHeader h → h.layout ≡ PAGES → IsOfPages h
pages_layout h rules is = ⊎_elim (λ (areas : IsOfAreas h). absurd (one_layout h.layout areas.layout is)) (λ (pages : IsOfPages h). pages) rules.layout
  where
    one_layout : (n : ℕ) → n ≡ TWO_AREAS → n ≡ PAGES → ⊥
    one_layout n first second = omega (arith, first, second)

-- a file whose header has the last format is migrated
pub is_last : (file : List ℕ) (entries : Entries) (h : Header) (view : View) → Stands file view → Counts file h → h.format ≡ FORMAT → FileMeans file entries → IsMigratedTo entries view
is_last file entries h view stands counts last (inl a) =
    let same : a.header.format ≡ h.format = ap (λ (k : Header). k.format) (one_counts file a.header h a.counts counts) in
    absurd (omega (arith, a.areas.format, same, last))
is_last file entries h view stands counts last (inr a) = record {
  image = file;
  stands = stands;
  migrated = record { means = a; is = ap (λ (k : Header). k.format) (one_counts file a.header h a.counts counts) ∙ last };
}

-- a header that counts hasn't the last format where the one that was read hasn't
pub not_last : (file : List ℕ) (own header : Header) → Counts file own → Counts file header → (own.format ≡ FORMAT → ⊥) → header.format ≡ FORMAT → ⊥
not_last file own header first second other last = other (ap (λ (k : Header). k.format) (one_counts file own header first second) ∙ last)
