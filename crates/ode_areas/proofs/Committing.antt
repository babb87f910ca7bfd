-- What the keeper holds, before a commit and behind it.
use Rattle.std.proofs.Common.{◌≡◌, ◌≤◌, ◌<◌, ◌+◌, [], ◌∷◌, ℕ, Option, Some, None, Err, ap, arith, length, refl, subst, sym, ◌∙◌}
use Rattle.std.specs.List.{AllByRecursion}
use Rattle.std.specs.Option.{IfSome}
use Rattle.ode_gate.specs.Changes.{header_change_length}
use Rattle.ode_gate.specs.declared.header.Header.{Header}
use Rattle.ode_gate.specs.declared.places.TheConstants.{AREA_LEN}
use Rattle.ode_host.specs.View.{View}
use Rattle.ode_journal.specs.declared.journal.Journal.{Journal}
use Rattle.ode_journal.specs.Appends.{need_of}
use Rattle.ode_keep.specs.Entries.{Changes, Entries, applied, record_bytes}
use Rattle.std.proofs.lemmas.List.{length-append}
use Rattle.ode_value.specs.Records.{snapshot}
use Rattle.ode_areas.specs.declared.areas.Areas.{Areas}
use Rattle.ode_areas.specs.declared.plan.Checkpoint.{Checkpoint}
use Rattle.ode_areas.specs.declared.plan.Ready.{Ready}
use Rattle.ode_areas.specs.Holding.{AreasHold}
use Rattle.ode_areas.specs.Ready.{IsMoved, IsReady}
use Rattle.ode_keep.specs.Payloads.{FitsChange, payload_of}
use Rattle.ode_keep.specs.Snapshots.{FitsSnapshot}
use Rattle.ode_keep.specs.Keeping.{OnTooLarge}
use Rattle.ode_keep.specs.declared.error.KeepError.{KeepError}
use Rattle.ode_keep.specs.declared.error.KeepError.TheVariants.{Memory, DiskFault, TooLarge, Damaged}
use Rattle.ode_keep.specs.declared.limits.TheConstants.{MAX_RECORD_BYTES}
use Rattle.ode_areas.specs.Steps.{MovesOver, StandUnder, bytes_before, checkpoint_length}
use Rattle.ode_areas.proofs.Fitting.{applied_fits, map_fits}
use Rattle.ode_areas.proofs.Sizes.{map_small}

pub under_of : (keeper : Areas) (view : View) (entries : Entries) → AreasHold keeper view entries → StandUnder keeper.header keeper.journal entries view
under_of keeper view entries h = record { file = h.file; counts = h.counts; areas = h.areas; has = h.has; journal = h.journal; end = h.end }

pub holds_of : (keeper : Areas) (view : View) (entries : Entries) → StandUnder keeper.header keeper.journal entries view → keeper.map ≡ entries → AreasHold keeper view entries
holds_of keeper view entries stand is = record {
  file = stand.file;
  counts = stand.counts;
  areas = stand.areas;
  has = stand.has;
  journal = stand.journal;
  end = stand.end;
  map = is;
}

-- a batch was made in memory, and nothing is written yet
module _ (keeper mid : Areas) (batch : Changes) (ready : Ready) (changed : mid ≡ record keeper { map = applied batch keeper.map })
    (is : IsReady batch keeper.header keeper.journal keeper.map ready) where
  pub ready_then : IsReady batch mid.header mid.journal keeper.map ready
  ready_then = subst (λ (k : Areas). IsReady batch k.header k.journal keeper.map ready) (sym changed) is

  module _ (view : View) (entries : Entries) (h : AreasHold keeper view entries) where
    pub ready_now : IsReady batch mid.header mid.journal entries ready
    ready_now = subst (λ (l : Entries). IsReady batch mid.header mid.journal l ready) h.map ready_then

    pub stand_now : StandUnder mid.header mid.journal entries view
    stand_now = subst (λ (k : Areas). StandUnder k.header k.journal entries view) (sym changed) (under_of keeper view entries h)

    pub map_now : mid.map ≡ applied batch entries
    map_now = ap (λ (k : Areas). k.map) changed ∙ ap (applied batch) h.map

-- what stands before a frame is no longer than a checkpoint of the records
pub before_frame : (header : Header) (entries : Entries) (due : Option Checkpoint) → IfSome due (λ c. MovesOver header entries c.header c.bytes.items)
    → bytes_before due ≤ checkpoint_length entries
before_frame header entries None moves = omega arith
before_frame header entries (Some c) moves =
    let long : length c.bytes.items ≡ length (snapshot entries) + 1 = ap length moves.spelled ∙ length-append (snapshot entries) (0 ∷ []) in
    omega (arith, long)

-- records behind changes of which each fits fit a snapshot
pub moved_fits : (changes : Changes) (header : Header) (place : Journal) (entries : Entries) (view : View) → StandUnder header place entries view → AllByRecursion FitsChange changes
    → FitsSnapshot (applied changes entries)
moved_fits changes header place entries view stand each = applied_fits changes entries each (map_fits header stand.file entries stand.has)

-- nor is a checkpoint of the records behind the changes longer than one of those before them and their frame
pub moved_length : (changes : Changes) (header : Header) (place : Journal) (entries : Entries) (c : Checkpoint) → IsMoved changes header place entries c
    → length c.bytes.items + header_change_length ≤ checkpoint_length entries + need_of (payload_of changes)
moved_length changes header place entries c is =
    let long : length c.bytes.items ≡ length (snapshot (applied changes entries)) + 1
    = ap length is.moves.spelled ∙ length-append (snapshot (applied changes entries)) (0 ∷ []) in
    omega (arith, long, is.small, is.none)

-- a batch that is too large for the records in memory is so for those that are held
pub large_held : (A B : Type 0) (e : KeepError) (keeper : Areas) (view : View) (batch : Changes)
    → OnTooLarge {A = A} (Err e) (λ total. record_bytes keeper.map ≤ AREA_LEN → (total ≡ record_bytes (applied batch keeper.map)) × (MAX_RECORD_BYTES < total))
    → OnTooLarge {A = B} (Err e) (λ total. (entries : Entries) → AreasHold keeper view entries → (total ≡ record_bytes (applied batch entries)) × (MAX_RECORD_BYTES < total))
large_held A B Memory keeper view batch large = tt
large_held A B DiskFault keeper view batch large = tt
large_held A B (TooLarge total) keeper view batch large = λ entries h.
    let small = subst (λ (l : Entries). record_bytes l ≤ AREA_LEN) (sym h.map) (map_small keeper.header h.file entries h.areas h.has) in
    subst (λ (l : Entries). (total ≡ record_bytes (applied batch l)) × (MAX_RECORD_BYTES < total)) h.map (large small)
large_held A B (Damaged page) keeper view batch large = tt

-- where the frame fits its journal no checkpoint is due
pub none_due : (due : Option Checkpoint) (need room : ℕ) → IfSome due (λ c. room < need) → need ≤ room → due ≡ None
none_due None need room needed fits = refl
none_due (Some c) need room needed fits = absurd (omega (arith, needed, fits))
