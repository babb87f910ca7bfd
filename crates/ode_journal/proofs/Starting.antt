-- What an error of the journal is that a start answers.
use Rattle.std.proofs.Common.{◌≡◌, ℕ}
use Rattle.ode_journal.specs.Starting.{journal_error}
use Rattle.ode_journal.specs.declared.error.JournalError.{JournalError}
use Rattle.ode_journal.specs.declared.error.JournalError.TheVariants as journal
use Rattle.ode_keep.specs.declared.error.StartError.TheVariants.{BadJournal, BadPage}

pub only_bad : (e : JournalError) (at : ℕ) → journal_error e ≡ BadJournal at → e ≡ journal.BadJournal at
only_bad journal.Memory at same = absurd (cc (same))
only_bad journal.DiskFault at same = absurd (cc (same))
only_bad (journal.BadJournal place) at same = cc (same)

pub no_page : (e : JournalError) (page : ℕ) → journal_error e ≡ BadPage page → ⊥
no_page journal.Memory page same = cc (same)
no_page journal.DiskFault page same = cc (same)
no_page (journal.BadJournal place) page same = cc (same)
