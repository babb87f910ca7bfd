-- An image has one map, or one place at which it is bad, and never both.
use Rattle.std.proofs.Common.{◌≡◌, ◌<◌, ◌≤◌, ⊎_elim, ℕ, ◌+◌, List, [], ◌∷◌, ◌++◌, length, drop, Option, Some, None, refl, sym, ◌∙◌, ap, subst, arith, append_assoc, length-append, length-drop, length-take}
use Rattle.std.proofs.lemmas.List.{append-nil}
use Rattle.std.specs.Prelude.{◌⊎◌}
use Rattle.std.specs.List.{AllByRecursion}
use Rattle.ode_value.specs.declared.key.Key.{Key}
use Rattle.ode_value.specs.Records.{Row, row_bytes, snapshot}
use Rattle.ode_gate.specs.declared.header.Header.{Header}
use Rattle.ode_gate.specs.Headers.{IsOfAreas}
use Rattle.ode_gate.proofs.Counting.{one_counts}
use Rattle.ode_journal.specs.Frames.{HasGate, gate_behind}
use Rattle.ode_journal.specs.Histories.{ArePayloads, in_turn}
use Rattle.ode_journal.proofs.Histories.{journal_not_bad, one_bad, one_history}
use Rattle.ode_journal.proofs.Unique.{journal_unique}
use Rattle.ode_keep.specs.Entries.{Changes, Entries, HasRisingKeys, applied}
use Rattle.ode_value.specs.Keys.{key_cmp}
use Rattle.ode_keep.proofs.Applying.{applied_rising}
use Rattle.ode_keep.specs.Snapshots.{FitsRow, FitsSnapshot, IsBrokenSnapshot, IsSnapshot}
use Rattle.ode_keep.specs.Payloads.{FitsChange, IsPayload, change_bytes, spelled_change}
use Rattle.ode_areas.specs.Image.{AreasMean, HasMap, IsBadAt, IsBadBody, IsBadJournal, body_of}
use Rattle.ode_host.proofs.Determinacy.{IsOnce, Reads, Stops, one_list, one_reading}
use Rattle.ode_keep.proofs.Counted.{one_counted}
use Rattle.ode_keep.proofs.Lists.{all_behind, all_front}
use Rattle.ode_keep.specs.Rising.{rising_front}
use Rattle.ode_keep.proofs.Firsts.{same_change_first, same_row_first}

row_some : (r : Row) (rest : List ℕ) → [] ≡ row_bytes r ++ rest → ⊥
row_some r rest same = absurd (omega (arith, ap length same))

pub one_snapshot : (a b : Entries) (bytes : List ℕ) → IsSnapshot a bytes → IsSnapshot b bytes → a ≡ b
one_snapshot a b bytes first second = one_list row_bytes FitsRow same_row_first row_some a b first.fits.rows second.fits.rows (sym first.spelled ∙ second.spelled)

fits_first : (front : Entries) (r : Row) (others : Entries) → FitsSnapshot (front ++ r ∷ others) → FitsSnapshot (front ++ r ∷ [])
fits_first front r others fits =
    let split : front ++ r ∷ others ≡ (front ++ r ∷ []) ++ others = sym (append_assoc front (r ∷ []) others) in
    record {
      rows = all_front FitsRow (front ++ r ∷ []) others (subst (λ (l : Entries). AllByRecursion FitsRow l) split fits.rows);
      rising = rising_front key_cmp (front ++ r ∷ []) others (subst (λ (l : Entries). HasRisingKeys l) split fits.rising);
    }

-- The records of a snapshot are read one behind the other. A state is those so far, and the bytes behind them.
abbrev SoFar : Type 0
SoFar = Entries × List ℕ

abbrev NextRow : SoFar → Row → SoFar → Type 0
NextRow s r t = FitsSnapshot (s.0 ++ r ∷ []) × (s.1 ≡ row_bytes r ++ t.1) × (t.0 ≡ s.0 ++ r ∷ [])

last_fits : (front : Entries) (r : Row) → FitsSnapshot (front ++ r ∷ []) → FitsRow r
last_fits front r fits = (all_behind FitsRow front (r ∷ []) fits.rows).0

row_once : IsOnce NextRow
row_once s r q t u first second =
    let one = same_row_first r q t.1 u.1 (last_fits s.0 r first.0) (last_fits s.0 q second.0) (sym first.1 ∙ second.1) in
    let front : t.0 ≡ u.0 = first.2 ∙ ap (λ (x : Row). s.0 ++ x ∷ []) one.0 ∙ sym second.2 in
    (one.0, λ i. (front i, one.1 i))

rows_read : (others front : Entries) (bytes rest : List ℕ) → FitsSnapshot (front ++ others) → bytes ≡ snapshot others ++ rest → Reads NextRow (front, bytes) others (front ++ others, rest)
rows_read [] front bytes rest fits is = let all : front ≡ front ++ [] = sym (append-nil front) in λ i. (all i, is i)
rows_read (r ∷ others) front bytes rest fits is =
    let split : front ++ r ∷ others ≡ (front ++ r ∷ []) ++ others = sym (append_assoc front (r ∷ []) others) in
    let more = rows_read others (front ++ r ∷ []) (snapshot others ++ rest) rest (subst (λ (l : Entries). FitsSnapshot l) split fits) refl in (
      (front ++ r ∷ [], snapshot others ++ rest),
      (fits_first front r others fits, is ∙ append_assoc (row_bytes r) (snapshot others) rest, refl),
      subst (λ (l : Entries). Reads NextRow (front ++ r ∷ [], snapshot others ++ rest) others (l, rest)) (sym split) more,
    )

module _ (size at : ℕ) (bytes : List ℕ) (is : IsBrokenSnapshot size at bytes) where
  broken_read : Reads NextRow ([], bytes) is.front (is.front, is.behind)
  broken_read = rows_read is.front [] bytes is.behind is.fits is.split

  broken_stops : Stops NextRow (is.front, is.behind)
  broken_stops r t next = is.bad r t.1 next.1 next.0

  some_missing : length bytes ≡ size → length is.behind ≡ 0 → ⊥
  some_missing whole none = absurd (omega (arith, whole, none, ap length is.split, length-append (snapshot is.front) is.behind, is.place, is.within))

  pub snapshot_not_broken : (entries : Entries) → IsSnapshot entries bytes → length bytes ≡ size → ⊥
  snapshot_not_broken entries snapshot_is whole =
      let whole_read : Reads NextRow ([], bytes) entries (entries, []) = rows_read entries [] bytes [] snapshot_is.fits (snapshot_is.spelled ∙ sym (append-nil (snapshot entries))) in
      let same = (one_reading NextRow row_once entries is.front ([], bytes) (entries, []) (is.front, is.behind) whole_read broken_read (λ r t next. row_some r t.1 next.1) broken_stops).1 in
      some_missing whole (ap (λ (s : SoFar). length s.1) (sym same))

pub one_break : (size p q : ℕ) (bytes : List ℕ) → IsBrokenSnapshot size p bytes → IsBrokenSnapshot size q bytes → p ≡ q
one_break size p q bytes first second =
    let same = (one_reading NextRow row_once first.front second.front ([], bytes) (first.front, first.behind) (second.front, second.behind)
    (broken_read size p bytes first) (broken_read size q bytes second) (broken_stops size p bytes first) (broken_stops size q bytes second)).0 in
    first.place ∙ ap (λ (l : Entries). length (snapshot l)) same ∙ sym second.place

spelled_some : (k : Key) (v : Option (List ℕ)) (rest : List ℕ) → [] ≡ spelled_change k v ++ rest → ⊥
spelled_some k None rest same = absurd (omega (arith, ap length same))
spelled_some k (Some v) rest same = absurd (omega (arith, ap length same))

change_some : (c : Key × Option (List ℕ)) (rest : List ℕ) → [] ≡ change_bytes c ++ rest → ⊥
change_some c rest same = spelled_some c.0 c.1 rest same

pub one_batch : (a b : Changes) (payload : List ℕ) → IsPayload a payload → IsPayload b payload → a ≡ b
one_batch = one_counted change_bytes FitsChange key_cmp same_change_first change_some

gate_inside : (at gate : ℕ) (file : List ℕ) → HasGate at gate file → at < length file
gate_inside at gate file has = omega (arith, ap length has, length-drop at file)

-- Under one header.
module _ (header : Header) (image : List ℕ) where
  pub one_has : (a b : Entries) → HasMap header image a → HasMap header image b → a ≡ b
  one_has a b first second =
      let body : first.body ≡ second.body = one_snapshot first.body second.body (body_of header image) first.snapshot second.snapshot in
      let frames : first.frames ≡ second.frames = journal_unique header.journal_at header.journal_end image first.frames second.frames first.journal second.journal in
      let batches : first.batches ≡ second.batches =
      one_history IsPayload one_batch first.batches second.batches second.frames (subst (λ (l : List (List ℕ)). ArePayloads IsPayload first.batches l) frames first.payloads) second.payloads in
      first.map ∙ ap (λ (l : List Changes). in_turn applied l first.body) batches ∙ ap (λ (l : Entries). in_turn applied second.batches l) body ∙ sym second.map

  body_long : header.body_at + header.body_len ≤ length image → length (body_of header image) ≡ header.body_len
  body_long whole = omega (arith, whole, length-take header.body_len (drop header.body_at image), length-drop header.body_at image)

  module _ (areas : IsOfAreas header) where
    has_whole : (entries : Entries) → HasMap header image entries → header.body_at + header.body_len ≤ length image
    has_whole entries has = omega (arith, areas.journal, gate_inside (gate_behind header.journal_at has.frames) has.journal.shut.gate image has.journal.shut.stands)

    pub never_both : (entries : Entries) (at : ℕ) → HasMap header image entries → IsBadAt header image at → ⊥
    never_both entries at has bad = ⊎_elim
        (λ (is : IsBadBody header image at). snapshot_not_broken header.body_len is.behind (body_of header image) is.broken has.body has.snapshot (body_long (has_whole entries has)))
        (λ (is : IsBadJournal header image at). journal_not_bad IsPayload header.journal_end image header.journal_at has.frames has.batches at has.journal has.payloads is.journal)
        bad

  body_or_journal : (p q : ℕ) → IsBadBody header image p → IsBadJournal header image q → ⊥
  body_or_journal p q first second = snapshot_not_broken header.body_len first.behind (body_of header image) first.broken second.body second.snapshot second.whole

  pub one_place : (p q : ℕ) → IsBadAt header image p → IsBadAt header image q → p ≡ q
  one_place p q first second = ⊎_elim
      (λ (a : IsBadBody header image p). ⊎_elim
      (λ (b : IsBadBody header image q).
      a.place ∙ ap (λ (k : ℕ). header.body_at + k) (one_break header.body_len a.behind b.behind (body_of header image) a.broken b.broken) ∙ sym b.place)
      (λ (b : IsBadJournal header image q). absurd (body_or_journal p q a b))
      second)
      (λ (a : IsBadJournal header image p). ⊎_elim
      (λ (b : IsBadBody header image q). absurd (body_or_journal q p b a))
      (λ (b : IsBadJournal header image q). one_bad IsPayload header.journal_end image header.journal_at p q a.journal b.journal)
      second)
      first

-- an image stands for one map
pub one_map : (image : List ℕ) (entries others : Entries) → AreasMean image entries → AreasMean image others → entries ≡ others
one_map image entries others first second =
    let same : first.header ≡ second.header = one_counts image first.header second.header first.counts second.counts in
    one_has second.header image entries others (subst (λ (h : Header). HasMap h image entries) same first.has) second.has

replayed_rising : (batches : List Changes) (entries : Entries) → HasRisingKeys entries → HasRisingKeys (in_turn applied batches entries)
replayed_rising [] entries rising = rising
replayed_rising (changes ∷ batches) entries rising = replayed_rising batches (applied changes entries) (applied_rising changes entries rising)

pub has_rising : (header : Header) (image : List ℕ) (entries : Entries) → HasMap header image entries → HasRisingKeys entries
has_rising header image entries has =
    subst (λ (l : Entries). HasRisingKeys l) (sym has.map) (replayed_rising has.batches has.body has.snapshot.fits.rising)

-- the records that an image stands for rise
pub rising : (image : List ℕ) (entries : Entries) → AreasMean image entries → HasRisingKeys entries
rising image entries means = has_rising means.header image entries means.has
