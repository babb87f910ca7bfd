-- The records of a file take no more bytes than one of its areas.
use Rattle.std.proofs.Common.{◌≡◌, ◌≤◌, ℕ, ◌+◌, List, [], ◌∷◌, Option, Some, None, ⊎_elim, ap, arith, drop, length, length-append, length-take}
use Rattle.std.specs.Int.{w32, to_be_bytes}
use Rattle.std.specs.List.{flat_map}
use Rattle.ode_gate.specs.Headers.{IsOfAreas}
use Rattle.ode_gate.specs.declared.gate.TheConstants.{OPEN}
use Rattle.ode_gate.specs.declared.header.Header.{Header}
use Rattle.ode_gate.specs.declared.places.TheConstants.{AREA_0, AREA_1, AREA_LEN, AREAS_END}
use Rattle.ode_journal.specs.Frames.{framed, spelled}
use Rattle.ode_journal.specs.Histories.{ArePayloads, in_turn}
use Rattle.ode_keep.specs.Entries.{Changes, Entries, HasRisingKeys, applied, record_bytes}
use Rattle.ode_keep.specs.Growth.{bytes_of, put_bytes}
use Rattle.ode_keep.specs.Payloads.{IsPayload, change_bytes, spelled_change}
use Rattle.ode_keep.proofs.Applying.{applied_rising}
use Rattle.ode_keep.proofs.Growing.{applied_grows}
use Rattle.ode_keep.proofs.Lengths.{length-snapshot}
use Rattle.ode_value.specs.Records.{key_bytes}
use Rattle.ode_value.specs.declared.key.Key.{Key}
use Rattle.ode_areas.specs.Image.{HasMap}

-- a record counts fewer bytes than the change that puts it has
change_long : (k : Key) (w : Option (List ℕ)) → bytes_of w ≤ length (spelled_change k w)
change_long k None = omega arith
change_long k (Some v) = omega (arith, length-append (key_bytes k) v)

puts_long : (cs : Changes) → put_bytes cs ≤ length (flat_map change_bytes cs)
puts_long [] = omega arith
puts_long (c ∷ cs) = omega (arith, change_long c.0 c.1, puts_long cs, length-append (change_bytes c) (flat_map change_bytes cs))

batch_long : (batch : Changes) (frame : List ℕ) → IsPayload batch frame → put_bytes batch ≤ length frame
batch_long batch frame is = omega (arith, ap length is.spelled, length-append (to_be_bytes w32 (length batch)) (flat_map change_bytes batch), puts_long batch)

-- frames make records grow by no more than their bytes
replayed_long : (batches : List Changes) (frames : List (List ℕ)) (es : Entries) → ArePayloads IsPayload batches frames → HasRisingKeys es
    → record_bytes (in_turn applied batches es) ≤ record_bytes es + length (spelled frames)
replayed_long [] [] es are rising = omega arith
replayed_long [] (f ∷ fs) es are rising = absurd are
replayed_long (b ∷ bs) [] es are rising = absurd are
replayed_long (b ∷ bs) (f ∷ fs) es are rising =
    omega (
      arith,
      replayed_long bs fs (applied b es) are.1 (applied_rising b es rising),
      applied_grows b es are.0.rising rising,
      batch_long b f are.0,
      length-append (OPEN ∷ framed f) (spelled fs),
      length-append (to_be_bytes w32 (length f)) f,
    )

-- the snapshot and the journal lie in one area
pub map_small : (h : Header) (file : List ℕ) (entries : Entries) → IsOfAreas h → HasMap h file entries → record_bytes entries ≤ AREA_LEN
map_small h file entries areas has =
    let grown : record_bytes entries ≤ record_bytes has.body + length (spelled has.frames) =
    omega (arith, ap (λ (l : Entries). record_bytes l) has.map, replayed_long has.batches has.frames has.body has.payloads has.snapshot.fits.rising) in
    let body : record_bytes has.body ≤ h.body_len =
    omega (arith, ap length has.snapshot.spelled, length-snapshot has.body, length-take h.body_len (drop h.body_at file)) in
    ⊎_elim
    (λ (first : (h.body_at ≡ AREA_0) × (h.journal_end ≡ AREA_1)). omega (arith, grown, body, areas.journal, has.journal.shut.within, first.0, first.1))
    (λ (second : (h.body_at ≡ AREA_1) × (h.journal_end ≡ AREAS_END)). omega (arith, grown, body, areas.journal, has.journal.shut.within, second.0, second.1))
    areas.area
