-- Why a keeper can't be started whose journal can't be read.
use Rattle.ode_journal.specs.declared.error.JournalError.{JournalError}
use Rattle.ode_journal.specs.declared.error.JournalError.TheVariants as journal
use Rattle.ode_keep.specs.declared.error.StartError.{StartError}
use Rattle.ode_keep.specs.declared.error.StartError.TheVariants.{Memory, DiskFault, BadJournal}

-- an error of the journal is the same one of the start
abbrev pub journal_error : JournalError → StartError
journal_error journal.Memory = Memory
journal_error journal.DiskFault = DiskFault
journal_error (journal.BadJournal at) = BadJournal at
