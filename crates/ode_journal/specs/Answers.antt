-- An answer that only the outside may take away.
use Rattle.std.specs.Prelude.{◌⊎◌, ◌≡◌, Result, IsErrOf}
use Rattle.ode_journal.specs.declared.error.JournalError.{JournalError}
use Rattle.ode_journal.specs.declared.error.JournalError.TheVariants.{Memory, DiskFault}

-- the answer is this one, unless there was no memory or the disk failed
abbrev pub Answers : {T : Type 0} → Result T JournalError → Result T JournalError → Type 0
Answers result expected = (result ≡ expected) ⊎ (IsErrOf result Memory ⊎ IsErrOf result DiskFault)
