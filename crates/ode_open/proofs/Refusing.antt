-- Why a file isn't opened, part by part.
use Rattle.std.proofs.Common.{◌≡◌, ◌⊎◌, inl, inr, ⊎_elim, ℕ, List, Result, Ok, Err, refl, subst}
use Rattle.std.specs.Prelude.{◌==◌, IfOk, IsErrOf}
use Rattle.ode_gate.specs.Readings.{Says}
use Rattle.ode_gate.specs.Slots.{Counts}
use Rattle.ode_gate.specs.declared.error.GateError.{GateError}
use Rattle.ode_gate.specs.declared.error.GateError.TheVariants as gate
use Rattle.ode_gate.specs.declared.header.Header.{Header}
use Rattle.ode_gate.specs.declared.places.TheConstants.{FIRST_FORMAT}
use Rattle.ode_keep.specs.Entries.{Entries}
use Rattle.ode_keeper.specs.Files.{HasMap, IsBadJournal, IsBadPage}
use Rattle.ode_keep.specs.declared.error.StartError.{StartError}
use Rattle.ode_keep.specs.declared.error.StartError.TheVariants as start
use Rattle.ode_language.specs.Languages.{ode}
use Rattle.ode_passes.specs.Rules.{Ruled}
use Rattle.ode_passes.specs.declared.error.OpenError.{OpenError as ReadError}
use Rattle.ode_passes.specs.declared.error.OpenError.TheVariants as read
use Rattle.ode_open.specs.Opening.{IsFromOutside, IsOpenedTo, found_of, gate_error, read_error, start_error}
use Rattle.ode_opening_records.specs.Answers.{Opens}
use Rattle.ode_opening_records.specs.Reading.{AreOpened}
use Rattle.ode_opening_records.specs.declared.base.Base.{Base}
use Rattle.ode_open.specs.declared.error.OpenError.{OpenError}

-- an error that the file has, or that the outside brought
abbrev pub IsWhy : List ℕ → OpenError → Type 0
IsWhy image e = IsFromOutside e ⊎ IsOpenedTo image (Err e)

-- ---- the header

pub why_header : (image : List ℕ) (e : GateError) → IsErrOf {T = Header} (Err e) gate.DiskFault ⊎ Says image (Err e) → IsWhy image (gate_error e)
why_header image e answer = ⊎_elim
    (λ (fault : IsErrOf {T = Header} (Err e) gate.DiskFault). let is : gate.DiskFault ≡ e = cc (fault) in subst (λ (x : GateError). IsWhy image (gate_error x)) is (inl tt))
    (λ (says : Says image (Err e)). inr (inl (record { error = e; says = says; is = refl })))
    answer

-- ---- the keeper

module _ (image : List ℕ) (h : Header) (counts : Counts image h) where
  pub why_start : (e : StartError) → ((at : ℕ) → e ≡ start.BadJournal at → IsBadJournal h image at) → ((page : ℕ) → e ≡ start.BadPage page → IsBadPage h image page) → IsWhy image (start_error e)
  why_start start.Memory bad worse = inl tt
  why_start start.DiskFault bad worse = inl tt
  why_start (start.BadJournal at) bad worse = inr (inr (inl (record { header = h; counts = counts; at = at; bad = bad at refl; is = refl })))
  why_start (start.BadPage page) bad worse = inr (inr (inr (inl (record { header = h; counts = counts; page = page; bad = worse page refl; is = refl }))))

  -- ---- the records

  module _ (entries : Entries) (has : HasMap h image entries) where
    opened : (to : Ruled Base) → AreOpened (h.format == FIRST_FORMAT) ode entries to → IsOpenedTo image (found_of to)
    opened to are = inr (inr (inr (record { header = h; counts = counts; entries = entries; has = has; opened = to; are = are; is = refl })))

    pub why_records : (e : ReadError) → Opens (h.format == FIRST_FORMAT) ode entries (Err e) → IsWhy image (read_error e)
    why_records read.Memory answers = inl tt
    why_records read.DiskFault answers = inl tt
    why_records (read.BadFile why) answers = inr (opened (Err why) answers)

    pub is_opened : (base : Base) → AreOpened (h.format == FIRST_FORMAT) ode entries (Ok base) → IsOpenedTo image (Ok base)
    is_opened base answers = opened (Ok base) answers

-- what holds at an answer, by what held there
pub at_ok : {X E : Type 0} {P Q : X → Type 0} (r : Result X E) → ((x : X) → P x → Q x) → IfOk r P → IfOk r Q
at_ok (Ok x) next is = next x is
at_ok (Err e) next is = tt
