-- What the start of a keeper answers.
use Rattle.std.specs.Prelude.{◌⊎◌, Result, IsErrOf, IsOk}
use Rattle.ode_keep.specs.declared.error.StartError.{StartError}
use Rattle.ode_keep.specs.declared.error.StartError.TheVariants.{Memory, DiskFault}

-- there was no memory, or the disk failed
abbrev pub HasOutsideFailed : {T : Type 0} → Result T StartError → Type 0
HasOutsideFailed result = IsErrOf result Memory ⊎ IsErrOf result DiskFault

-- the start succeeds, unless there was no memory or the disk failed
abbrev pub Starts : {T : Type 0} → Result T StartError → Type 0
Starts result = IsOk result ⊎ HasOutsideFailed result

-- it is refused with this error, unless there was no memory or the disk failed
abbrev pub Refuses : {T : Type 0} → Result T StartError → StartError → Type 0
Refuses result error = IsErrOf result error ⊎ HasOutsideFailed result
