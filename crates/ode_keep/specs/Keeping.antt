-- What the answers of a keeper leave.
use Rattle.std.specs.Prelude.{◌≡◌, ◌⊎◌, ℕ, List, Bool, true, false, Some, Result, Err}
use Rattle.ode_host.specs.View.{View}
use Rattle.ode_keep.specs.Entries.{Changes, Entries, applied}
use Rattle.ode_keep.specs.declared.error.KeepError.{KeepError}
use Rattle.ode_keep.specs.declared.error.KeepError.TheVariants.{Memory, DiskFault, TooLarge, Damaged}

-- the image stands for the records before the changes, or for those after them, and the text is as it was
pub record LeavesOldOrNew (means : List ℕ → Entries → Type 0) (entries : Entries) (changes : Changes) (old : View) (image out : List ℕ) : Type 0 where
  pub whole : means image entries ⊎ means image (applied changes entries)
  pub text : old.text ≡ Some out

-- whether the disk didn't fail
abbrev pub is_usable : {A : Type 0} → Result A KeepError → Bool
is_usable (Err DiskFault) = false
is_usable _ = true

-- what holds at each answer but a fault of the disk
abbrev pub UnlessFault : {A : Type 0} → Result A KeepError → Type 0 → Type 0
UnlessFault (Err DiskFault) P = Unit {0}
UnlessFault _ P = P

-- what holds where a batch was refused
abbrev pub OnRefusal : {A : Type 0} → Result A KeepError → Type 0 → Type 0
OnRefusal (Err Memory) P = P
OnRefusal (Err (TooLarge total)) P = P
OnRefusal _ P = Unit {0}

-- what holds where it is refused for its size
abbrev pub OnTooLarge : {A : Type 0} → Result A KeepError → (ℕ → Type 0) → Type 0
OnTooLarge (Err (TooLarge total)) P = P total
OnTooLarge _ P = Unit {0}

-- what holds where a page isn't one that was written
abbrev pub OnDamaged : {A : Type 0} → Result A KeepError → Type 0 → Type 0
OnDamaged (Err (Damaged page)) P = P
OnDamaged _ P = Unit {0}

-- what holds where the disk failed
abbrev pub OnDiskFault : {A : Type 0} → Result A KeepError → Type 0 → Type 0
OnDiskFault (Err DiskFault) P = P
OnDiskFault _ P = Unit {0}
