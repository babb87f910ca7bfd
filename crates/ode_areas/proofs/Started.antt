-- What a keeper has that was started, and that its answer is decided by the file.
use Rattle.std.proofs.Common.{◌≡◌, ⊎_elim, ℕ, List, Result, IfOk, IsErrOf, refl, sym, ap, subst, arith}
use Rattle.std.proofs.lemmas.Result.{IfOk-weaker}
use Rattle.ode_gate.specs.declared.header.Header.{Header}
use Rattle.ode_gate.specs.Headers.{IsHeader, IsOfAreas, IsOfPages}
use Rattle.ode_gate.specs.Slots.{Counts}
use Rattle.ode_host.specs.View.{View}
use Rattle.ode_host.specs.Host.{Stands}
use Rattle.ode_journal.specs.declared.journal.Journal.{Journal}
use Rattle.ode_journal.specs.Frames.{IsJournal}
use Rattle.ode_journal.specs.Histories.{IsReplayed}
use Rattle.ode_keep.specs.Entries.{Entries, applied}
use Rattle.ode_keep.specs.Payloads.{IsPayload}
use Rattle.ode_areas.specs.declared.areas.Areas.{Areas}
use Rattle.ode_keep.specs.declared.error.StartError.{StartError}
use Rattle.ode_keep.specs.declared.error.StartError.TheVariants.{BadJournal, BadPage}
use Rattle.ode_areas.specs.Holding.{AreasHold}
use Rattle.ode_areas.specs.Image.{HasMap, IsBadAt, body_of}
use Rattle.ode_areas.specs.OneMap.{never_both, one_has, one_place}
use Rattle.ode_keep.specs.Snapshots.{IsSnapshot}
use Rattle.ode_keep.specs.Starting.{Refuses, Starts}
use Rattle.ode_keep.proofs.Starting.{refuses_journal, starts}

pub of_areas : (h : Header) → IsHeader h → h.layout ≡ 1 → IsOfAreas h
of_areas h rules one = ⊎_elim (λ (is : IsOfAreas h). is) (λ (is : IsOfPages h). absurd (omega (arith, is.layout, one))) rules.layout

-- the snapshot and what the journal makes of it are the map
abbrev pub has_map : (header : Header) (file : List ℕ) (body map : Entries) (journal : Journal) → IsSnapshot body (body_of header file)
    → IsReplayed IsPayload applied header.journal_at header.journal_end body map journal file → HasMap header file map
has_map header file body map journal snapshot after = record {
  body = body;
  snapshot = snapshot;
  frames = after.frames;
  journal = after.stands;
  batches = after.steps;
  payloads = after.payloads;
  map = after.state;
}

pub holds_map : (keeper : Areas) (file : List ℕ) (body entries : Entries) (view : View) → IsOfAreas keeper.header → Stands file view → Counts file keeper.header
    → IsSnapshot body (body_of keeper.header file) → IsReplayed IsPayload applied keeper.header.journal_at keeper.header.journal_end body keeper.map keeper.journal file
    → HasMap keeper.header file entries → AreasHold keeper view entries
holds_map keeper file body entries view areas stands counts snapshot after has =
    let own = has_map keeper.header file body keeper.map keeper.journal snapshot after in
    let same : keeper.map ≡ entries = one_has keeper.header file keeper.map entries own has in
    subst (λ (l : Entries). AreasHold keeper view l) same (record {
      file = file;
      counts = counts;
      areas = areas;
      has = own;
      journal = record {
        stands = stands;
        has = subst (λ (j : Journal). IsJournal keeper.header.journal_at j.end after.frames file) (sym after.behind) after.stands;
        place = ap (λ (j : Journal). j.at) after.behind;
      };
      end = ap (λ (j : Journal). j.end) after.behind;
      map = refl;
    })

-- What is true of the file is answered, where the answers are true and at most one of them can be.
module _ (header : Header) (file : List ℕ) (areas : IsOfAreas header) where
  pub exact_starts : (r : Result Areas StartError) → ((p : ℕ) → IsErrOf r (BadJournal p) → IsBadAt header file p) → ((page : ℕ) → IsErrOf r (BadPage page) → ⊥)
      → (entries : Entries) → HasMap header file entries → Starts r
  exact_starts r bad page entries has =
      starts (λ p. IsBadAt header file p) (λ _. ⊥) r bad page (λ p is. never_both header file areas entries p has is) (λ _ no. no)

  pub exact_refuses : (r : Result Areas StartError) → IfOk r (λ _. (entries : Entries) × HasMap header file entries) → ((p : ℕ) → IsErrOf r (BadJournal p) → IsBadAt header file p)
      → ((page : ℕ) → IsErrOf r (BadPage page) → ⊥) → (at : ℕ) → IsBadAt header file at → Refuses r (BadJournal at)
  exact_refuses r found bad page at is =
      refuses_journal (λ p. IsBadAt header file p) (λ _. ⊥) r bad page (IfOk-weaker r _ _ (λ _ own. never_both header file areas own.0 at own.1 is) found) at
      (λ other also. one_place header file other at also is) (λ _ no. no)
