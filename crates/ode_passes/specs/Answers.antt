-- What a call answers, by what its rules come to.
use Rattle.std.specs.Prelude.{◌≡◌, Bool, true, false, Result, Ok, Err}
use Rattle.ode_keep.specs.declared.error.KeepError.{KeepError}
use Rattle.ode_keep.specs.declared.error.KeepError.TheVariants as keep
use Rattle.ode_passes.specs.Rules.{Ruled}
use Rattle.ode_passes.specs.declared.cause.Cause.TheVariants as cause
use Rattle.ode_passes.specs.declared.error.OpenError.{OpenError}
use Rattle.ode_passes.specs.declared.error.OpenError.TheVariants.{Memory, DiskFault, BadFile}

-- what was meant, or its broken rule; want of memory and a fault of the disk may come in place of either
abbrev pub Answers : {X : Type 0} → Ruled X → Result X OpenError → Type 0
Answers meant (Ok x) = meant ≡ Ok x
Answers meant (Err (BadFile cause)) = meant ≡ Err cause
Answers meant (Err DiskFault) = Unit {0}
Answers meant (Err Memory) = Unit {0}

-- the same of a call where this is meant of what it leaves, whatever it answers
abbrev pub Leaves : {S X : Type 0} → Ruled S → S → Result X OpenError → Type 0
Leaves meant s (Ok x) = meant ≡ Ok s
Leaves meant s (Err (BadFile cause)) = meant ≡ Err cause
Leaves meant s (Err DiskFault) = Unit {0}
Leaves meant s (Err Memory) = Unit {0}

-- whether the keeper may be used
abbrev pub is_usable : {X : Type 0} → Result X OpenError → Bool
is_usable (Err DiskFault) = false
is_usable _ = true

-- what holds at each answer but a fault of the disk
abbrev pub UnlessFault : {X : Type 0} → Result X OpenError → Type 0 → Type 0
UnlessFault (Err DiskFault) P = Unit {0}
UnlessFault _ P = P

-- what holds where a rule is broken
abbrev pub OnBroken : {X : Type 0} → Result X OpenError → Type 0 → Type 0
OnBroken (Err (BadFile cause)) P = P
OnBroken _ P = Unit {0}

-- what a keeper's error comes to
abbrev pub keep_error : KeepError → OpenError
keep_error keep.Memory = Memory
keep_error keep.DiskFault = DiskFault
keep_error (keep.TooLarge total) = BadFile (cause.Size total)
keep_error (keep.Damaged page) = BadFile (cause.Page page)
