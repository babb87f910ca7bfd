-- What is true of the file is answered, where the answers are true and at most one of them can be.
use Rattle.std.proofs.Common.{◌≡◌, ◌<◌, inl, inr, ℕ, ◌+◌, ◌^◌, List, length, take, drop, Option, Result, Ok, Err, IfOk, IsErrOf, refl, sym, ◌∙◌, ap, arith}
use Rattle.std.proofs.lemmas.Nat.{from_be_bytes-to_be_bytes_4}
use Rattle.std.specs.Int.{w32, to_be_bytes, from_be_bytes}
use Rattle.ode_gate.specs.declared.gate.TheConstants.{OPEN}
use Rattle.ode_host.specs.Fields.{number_at}
use Rattle.ode_journal.specs.declared.journal.Journal.{Journal}
use Rattle.ode_journal.specs.Frames.{limit, gate_behind, HasGate, IsBad, NextIs, IsJournal, IsBroken}
use Rattle.ode_journal.proofs.Unique.{next_unique, next_not_bad, journal_unique, broken_unique, never_both}
use Rattle.ode_journal.specs.declared.error.JournalError.{JournalError}
use Rattle.ode_journal.specs.declared.error.JournalError.TheVariants.{Memory, DiskFault, BadJournal}
use Rattle.ode_journal.specs.Answers.{Answers}
use Rattle.ode_journal.specs.declared.frame.TheConstants.{FRAME_HEAD, LENGTH_LEN}

-- Found x: it is so that x is found. Bad p: it is so that the journal is bad at p.
module _ {T : Type 0} (Found : T → Type 0) (Bad : ℕ → Type 0)
    (one : (x y : T) → Found x → Found y → x ≡ y) (same : (p q : ℕ) → Bad p → Bad q → p ≡ q) (never : (x : T) (p : ℕ) → Found x → Bad p → ⊥) where
  pub exact_found : (r : Result T JournalError) → IfOk r Found → ((p : ℕ) → IsErrOf r (BadJournal p) → Bad p) → (x : T) → Found x → Answers r (Ok x)
  exact_found (Ok y) found bad x is = inl (ap Ok (one y x found is))
  exact_found (Err Memory) found bad x is = inr (inl refl)
  exact_found (Err DiskFault) found bad x is = inr (inr refl)
  exact_found (Err (BadJournal p)) found bad x is = absurd (never x p is (bad p refl))

  pub exact_bad : (r : Result T JournalError) → IfOk r Found → ((p : ℕ) → IsErrOf r (BadJournal p) → Bad p) → (q : ℕ) → Bad q → Answers r (Err (BadJournal q))
  exact_bad (Ok y) found bad q is = absurd (never y q found is)
  exact_bad (Err Memory) found bad q is = inr (inl refl)
  exact_bad (Err DiskFault) found bad q is = inr (inr refl)
  exact_bad (Err (BadJournal p)) found bad q is = inl (ap (λ (k : ℕ). Err (BadJournal k)) (same p q (bad p refl) is))

-- an open gate whose payload runs past the file's end
pub payload_bad : (end at n : ℕ) (file : List ℕ) → n < 2 ^ 32 → HasGate at OPEN file → take LENGTH_LEN (drop (at + 1) file) ≡ to_be_bytes w32 n → length file < at + FRAME_HEAD + n → IsBad end at file
payload_bad end at n file short gate spelled past =
    let is : number_at w32 file (at + 1) ≡ n = ap (λ (l : List ℕ). from_be_bytes w32 l) spelled ∙ from_be_bytes-to_be_bytes_4 n short in
    let runs : limit end file < at + FRAME_HEAD + number_at w32 file (at + 1) = omega (arith, is, past) in
    inr (gate, runs)

module _ (end at : ℕ) (file : List ℕ) where
  abbrev BadHere : ℕ → Type 0
  BadHere place = (place ≡ at) × IsBad end at file

  abbrev NextHere : Option (List ℕ) → Type 0
  NextHere next = NextIs end at next file

  one_next : (a b : Option (List ℕ)) → NextHere a → NextHere b → a ≡ b
  one_next a b first second = next_unique end at a b file first second

  same_place : (p q : ℕ) → BadHere p → BadHere q → p ≡ q
  same_place p q first second = first.0 ∙ sym second.0

  not_both : (next : Option (List ℕ)) (place : ℕ) → NextHere next → BadHere place → ⊥
  not_both next place is bad = next_not_bad end at next file is bad.1

  pub exact_next : (r : Result (Option (List ℕ)) JournalError) → IfOk r NextHere → ((p : ℕ) → IsErrOf r (BadJournal p) → BadHere p) → (next : Option (List ℕ)) → NextHere next → Answers r (Ok next)
  exact_next = exact_found NextHere BadHere one_next same_place not_both

  pub exact_bad_next : (r : Result (Option (List ℕ)) JournalError) → IfOk r NextHere → ((p : ℕ) → IsErrOf r (BadJournal p) → BadHere p) → IsBad end at file → Answers r (Err (BadJournal at))
  exact_bad_next r found bad is = exact_bad NextHere BadHere one_next same_place not_both r found bad at (refl, is)

-- where the journal stands, and its frames
abbrev pub Scanned : Type 0
Scanned = Journal × List (List ℕ)

module _ (start end : ℕ) (file : List ℕ) where
  abbrev pub behind_frames : List (List ℕ) → Scanned
  behind_frames frames = (record { at = gate_behind start frames; end = end }, frames)

  abbrev pub IsScanned : Scanned → Type 0
  IsScanned scanned = IsJournal start end scanned.1 file × (scanned ≡ behind_frames scanned.1)

  one_scanned : (a b : Scanned) → IsScanned a → IsScanned b → a ≡ b
  one_scanned a b first second = first.1 ∙ ap behind_frames (journal_unique start end file a.1 b.1 first.0 second.0) ∙ sym second.1

  not_broken : (scanned : Scanned) (place : ℕ) → IsScanned scanned → IsBroken start end place file → ⊥
  not_broken scanned place is broken = never_both start end file scanned.1 place is.0 broken

  pub exact_scan : (r : Result Scanned JournalError) → IfOk r IsScanned → ((p : ℕ) → IsErrOf r (BadJournal p) → IsBroken start end p file)
      → (frames : List (List ℕ)) → IsJournal start end frames file → Answers r (Ok (behind_frames frames))
  exact_scan r found bad frames is =
      exact_found IsScanned (λ p. IsBroken start end p file) one_scanned (broken_unique start end file) not_broken r found bad (behind_frames frames) (is, refl)

  pub exact_broken : (r : Result Scanned JournalError) → IfOk r IsScanned → ((p : ℕ) → IsErrOf r (BadJournal p) → IsBroken start end p file)
      → (place : ℕ) → IsBroken start end place file → Answers r (Err (BadJournal place))
  exact_broken r found bad place is =
      exact_bad IsScanned (λ p. IsBroken start end p file) one_scanned (broken_unique start end file) not_broken r found bad place is
