-- That the answer of a start is decided by the file.
use Rattle.std.proofs.Common.{◌≡◌, inl, inr, ℕ, Result, Ok, Err, IfOk, IsErrOf, refl, ap}
use Rattle.ode_keep.specs.Starting.{Refuses, Starts}
use Rattle.ode_keep.specs.declared.error.StartError.{StartError}
use Rattle.ode_keep.specs.declared.error.StartError.TheVariants.{Memory, DiskFault, BadJournal, BadPage}

-- What is true of the file is answered, where the answers are true and at most one of them can be.
module _ {T : Type 0} (IsBadAt IsBadPage : ℕ → Type 0) where
  pub starts : (r : Result T StartError) → ((at : ℕ) → IsErrOf r (BadJournal at) → IsBadAt at) → ((page : ℕ) → IsErrOf r (BadPage page) → IsBadPage page)
      → ((at : ℕ) → IsBadAt at → ⊥) → ((page : ℕ) → IsBadPage page → ⊥) → Starts r
  starts (Ok x) bad_at bad_page journal pages = inl refl
  starts (Err Memory) bad_at bad_page journal pages = inr (inl refl)
  starts (Err DiskFault) bad_at bad_page journal pages = inr (inr refl)
  starts (Err (BadJournal at)) bad_at bad_page journal pages = absurd (journal at (bad_at at refl))
  starts (Err (BadPage page)) bad_at bad_page journal pages = absurd (pages page (bad_page page refl))

  pub refuses_journal : (r : Result T StartError) → ((at : ℕ) → IsErrOf r (BadJournal at) → IsBadAt at) → ((page : ℕ) → IsErrOf r (BadPage page) → IsBadPage page)
      → IfOk r (λ _. ⊥) → (at : ℕ) → ((other : ℕ) → IsBadAt other → other ≡ at) → ((page : ℕ) → IsBadPage page → ⊥) → Refuses r (BadJournal at)
  refuses_journal (Ok x) bad_at bad_page none at one pages = absurd none
  refuses_journal (Err Memory) bad_at bad_page none at one pages = inr (inl refl)
  refuses_journal (Err DiskFault) bad_at bad_page none at one pages = inr (inr refl)
  refuses_journal (Err (BadJournal other)) bad_at bad_page none at one pages = inl (ap (λ (k : ℕ). Err (BadJournal k)) (one other (bad_at other refl)))
  refuses_journal (Err (BadPage page)) bad_at bad_page none at one pages = absurd (pages page (bad_page page refl))

  pub refuses_page : (r : Result T StartError) → ((at : ℕ) → IsErrOf r (BadJournal at) → IsBadAt at) → ((page : ℕ) → IsErrOf r (BadPage page) → IsBadPage page)
      → IfOk r (λ _. ⊥) → (page : ℕ) → ((other : ℕ) → IsBadPage other → other ≡ page) → ((at : ℕ) → IsBadAt at → ⊥) → Refuses r (BadPage page)
  refuses_page (Ok x) bad_at bad_page none page one journal = absurd none
  refuses_page (Err Memory) bad_at bad_page none page one journal = inr (inl refl)
  refuses_page (Err DiskFault) bad_at bad_page none page one journal = inr (inr refl)
  refuses_page (Err (BadJournal at)) bad_at bad_page none page one journal = absurd (journal at (bad_at at refl))
  refuses_page (Err (BadPage other)) bad_at bad_page none page one journal = inl (ap (λ (k : ℕ). Err (BadPage k)) (one other (bad_page other refl)))
