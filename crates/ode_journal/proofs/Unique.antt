-- A file is a journal in one way, or broken at one place, and never both.
use Rattle.std.proofs.Common.{◌≡◌, ◌<◌, ◌≤◌, ⊎_elim, ℕ, ◌+◌, Option, Some, None, List, [], ◌∷◌, ◌++◌, length, take, drop, refl, sym, ◌∙◌, ap, subst, arith, append_assoc, length-append, length-drop}
use Rattle.std.proofs.lemmas.List.{take_at, drop-drop}
use Rattle.std.proofs.lemmas.Nat.{from_be_bytes-to_be_bytes_4}
use Rattle.std.specs.Int.{w32, to_be_bytes, from_be_bytes}
use Rattle.std.specs.List.{AllByRecursion}
use Rattle.ode_gate.specs.declared.gate.TheConstants.{OPEN}
use Rattle.ode_host.specs.Fields.{number_at}
use Rattle.ode_host.proofs.Determinacy.{IsOnce, Reads, one_reading}
use Rattle.ode_journal.specs.Frames.{framed, spelled, gate_behind, limit, HasGate, IsShut, IsFramed, IsBad, HasFrames, IsJournal, IsBroken, NextIs}
use Rattle.ode_journal.proofs.Frames.{first_frame, other_frames}
use Rattle.ode_journal.specs.declared.frame.TheConstants.{FRAME_HEAD, LENGTH_LEN}

-- what a whole frame says of the file
module _ (end at : ℕ) (payload file : List ℕ) (is : IsFramed end at payload file) where
  abbrev rest : List ℕ
  rest = drop (at + FRAME_HEAD + length payload) file

  inside : at + FRAME_HEAD + length payload ≤ length file
  inside = omega (arith, ap length is.stands, length-append (OPEN ∷ framed payload) rest, length-drop at file, length-drop (at + FRAME_HEAD + length payload) file)

  behind : drop (at + 1) file ≡ to_be_bytes w32 (length payload) ++ (payload ++ rest)
  behind = sym (drop-drop 1 at file) ∙ ap (λ (l : List ℕ). drop 1 l) is.stands ∙ append_assoc (to_be_bytes w32 (length payload)) payload rest

  gate : HasGate at OPEN file
  gate =
      is.stands ∙ ap (λ (l : List ℕ). OPEN ∷ l) (append_assoc (to_be_bytes w32 (length payload)) payload rest ∙ sym behind)

  number : number_at w32 file (at + 1) ≡ length payload
  number = ap (λ (l : List ℕ). from_be_bytes w32 (take LENGTH_LEN l)) behind ∙ from_be_bytes-to_be_bytes_4 (length payload) is.short

  payload_is : take (length payload) (drop LENGTH_LEN (drop (at + 1) file)) ≡ payload
  payload_is = ap (λ (l : List ℕ). take (length payload) (drop LENGTH_LEN l)) behind ∙ take_at payload rest (length payload) refl

pub framed_unique : (end at : ℕ) (p q file : List ℕ) → IsFramed end at p file → IsFramed end at q file → p ≡ q
framed_unique end at p q file first second =
    let long : length p ≡ length q = sym (number end at p file first) ∙ number end at q file second in
    sym (payload_is end at p file first) ∙ ap (λ (k : ℕ). take k (drop LENGTH_LEN (drop (at + 1) file))) long ∙ payload_is end at q file second

same_gate : (at g h : ℕ) (file : List ℕ) → HasGate at g file → HasGate at h file → g ≡ h
same_gate at g h file first second = let both : g ∷ drop (at + 1) file ≡ h ∷ drop (at + 1) file = sym first ∙ second in cc (both)

gate_inside : (at gate : ℕ) (file : List ℕ) → HasGate at gate file → at < length file
gate_inside at gate file has = omega (arith, ap length has, length-drop at file)

-- no whole frame stands here
abbrev pub IsStop : ℕ → ℕ → List ℕ → Type 0
IsStop end at file = (payload : List ℕ) → IsFramed end at payload file → ⊥

pub shut_stops : (end at : ℕ) (file : List ℕ) → IsShut end at file → IsStop end at file
shut_stops end at file is payload framed = is.shut (same_gate at is.gate OPEN file is.stands (gate end at payload file framed))

pub bad_stops : (end at : ℕ) (file : List ℕ) → IsBad end at file → IsStop end at file
bad_stops end at file bad payload framed = ⊎_elim
    (λ (past : limit end file ≤ at). absurd (omega (arith, past, framed.within, inside end at payload file framed)))
    (λ (opened : HasGate at OPEN file × (limit end file < at + FRAME_HEAD + number_at w32 file (at + 1))).
    let runs : limit end file < at + FRAME_HEAD + number_at w32 file (at + 1) = opened.1 in
    absurd (omega (arith, runs, number end at payload file framed, framed.within, inside end at payload file framed)))
    bad

pub shut_not_bad : (end at : ℕ) (file : List ℕ) → IsShut end at file → IsBad end at file → ⊥
shut_not_bad end at file is bad = ⊎_elim
    (λ (past : limit end file ≤ at). absurd (omega (arith, past, is.within, gate_inside at is.gate file is.stands)))
    (λ (opened : HasGate at OPEN file × (limit end file < at + FRAME_HEAD + number_at w32 file (at + 1))). is.shut (same_gate at is.gate OPEN file is.stands opened.0))
    bad

pub next_unique : (end at : ℕ) (a b : Option (List ℕ)) (file : List ℕ) → NextIs end at a file → NextIs end at b file → a ≡ b
next_unique end at None None file first second = refl
next_unique end at None (Some q) file first second = absurd (shut_stops end at file first q second)
next_unique end at (Some p) None file first second = absurd (shut_stops end at file second p first)
next_unique end at (Some p) (Some q) file first second = ap Some (framed_unique end at p q file first second)

pub next_not_bad : (end at : ℕ) (next : Option (List ℕ)) (file : List ℕ) → NextIs end at next file → IsBad end at file → ⊥
next_not_bad end at None file is bad = shut_not_bad end at file is bad
next_not_bad end at (Some payload) file is bad = bad_stops end at file bad payload is

stop_at : (end p q : ℕ) (file : List ℕ) → p ≡ q → IsStop end p file → IsStop end q file
stop_at end p q file same = subst (λ (k : ℕ). IsStop end k file) same

-- Frames are read one behind the other, each with a payload that has P.
module _ (P : List ℕ → Type 0) (end : ℕ) (file : List ℕ) where
  abbrev NextFrame : ℕ → List ℕ → ℕ → Type 0
  NextFrame at payload behind = IsFramed end at payload file × P payload × (behind ≡ at + FRAME_HEAD + length payload)

  next_once : IsOnce NextFrame
  next_once at p q s t first second =
      let same : p ≡ q = framed_unique end at p q file first.0 second.0 in
      (same, omega (arith, first.2, second.2, ap length same))

  frames_read : (frames : List (List ℕ)) (start : ℕ) → HasFrames start end frames file → AllByRecursion P frames → Reads NextFrame start frames (gate_behind start frames)
  frames_read [] start has have = omega arith
  frames_read (payload ∷ frames) start has have =
      let next = start + FRAME_HEAD + length payload in
      let same : gate_behind next frames ≡ gate_behind start (payload ∷ frames) = omega (arith, length-append (framed payload) (spelled frames)) in (
        next,
        (first_frame start end frames payload file has, have.0, refl),
        subst (λ (k : ℕ). Reads NextFrame next frames k) same (frames_read frames next (other_frames start end frames payload file has) have.1),
      )

  -- no whole frame whose payload has P stands here
  abbrev pub NoneHas : ℕ → Type 0
  NoneHas at = (payload : List ℕ) → IsFramed end at payload file → P payload → ⊥

  -- A file has one list of such frames from a place on, up to where none stands.
  pub frames_unique : (a b : List (List ℕ)) (start : ℕ) → HasFrames start end a file → HasFrames start end b file → AllByRecursion P a → AllByRecursion P b
      → NoneHas (gate_behind start a) → NoneHas (gate_behind start b) → a ≡ b
  frames_unique a b start has_a has_b have_a have_b none_a none_b =
      (one_reading NextFrame next_once a b start (gate_behind start a) (gate_behind start b) (frames_read a start has_a have_a) (frames_read b start has_b have_b)
      (λ payload behind next. none_a payload next.0 next.1) (λ payload behind next. none_b payload next.0 next.1)).0

module _ (start end : ℕ) (file : List ℕ) where
  any_payload : (frames : List (List ℕ)) → AllByRecursion (λ payload. Unit {0}) frames
  any_payload [] = tt
  any_payload (payload ∷ frames) = (tt, any_payload frames)

  one_up_to : (a b : List (List ℕ)) → HasFrames start end a file → HasFrames start end b file → IsStop end (gate_behind start a) file → IsStop end (gate_behind start b) file → a ≡ b
  one_up_to a b has_a has_b stop_a stop_b =
      frames_unique (λ payload. Unit {0}) end file a b start has_a has_b (any_payload a) (any_payload b) (λ payload is any. stop_a payload is) (λ payload is any. stop_b payload is)

  pub journal_unique : (a b : List (List ℕ)) → IsJournal start end a file → IsJournal start end b file → a ≡ b
  journal_unique a b first second =
      one_up_to a b first.has second.has (shut_stops end (gate_behind start a) file first.shut) (shut_stops end (gate_behind start b) file second.shut)

  broken_stops : (place : ℕ) (is : IsBroken start end place file) → IsStop end (gate_behind start is.frames) file
  broken_stops place is = stop_at end place (gate_behind start is.frames) file is.place (bad_stops end place file is.bad)

  pub broken_unique : (p q : ℕ) → IsBroken start end p file → IsBroken start end q file → p ≡ q
  broken_unique p q first second =
      let same = one_up_to first.frames second.frames first.has second.has (broken_stops p first) (broken_stops q second) in
      first.place ∙ ap (λ (l : List (List ℕ)). gate_behind start l) same ∙ sym second.place

  pub never_both : (frames : List (List ℕ)) (place : ℕ) → IsJournal start end frames file → IsBroken start end place file → ⊥
  never_both frames place whole broken =
      let same = one_up_to frames broken.frames whole.has broken.has (shut_stops end (gate_behind start frames) file whole.shut) (broken_stops place broken) in
      shut_not_bad end place file (subst (λ (k : ℕ). IsShut end k file) (ap (λ (l : List (List ℕ)). gate_behind start l) same ∙ sym broken.place) whole.shut) broken.bad
