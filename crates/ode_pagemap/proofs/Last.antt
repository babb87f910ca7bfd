-- What holds over a file of the last format, by what holds over each.
use Rattle.std.proofs.Common.{Err, Ok, Result}
use Rattle.ode_keep.specs.Keeping.{OnRefusal, UnlessFault}
use Rattle.ode_keep.specs.declared.error.KeepError.{KeepError}
use Rattle.ode_keep.specs.declared.error.KeepError.TheVariants.{Damaged, DiskFault, Memory, TooLarge}

pub unless_more : {S : Type 0} {P Q : Type 0} (result : Result S KeepError) → UnlessFault result P → (P → Q) → UnlessFault result Q
unless_more (Ok x) on so = so on
unless_more (Err Memory) on so = so on
unless_more (Err DiskFault) on so = tt
unless_more (Err (TooLarge total)) on so = so on
unless_more (Err (Damaged page)) on so = so on

pub refusal_more : {S : Type 0} {P Q : Type 0} (result : Result S KeepError) → OnRefusal result P → (P → Q) → OnRefusal result Q
refusal_more (Ok x) on so = tt
refusal_more (Err Memory) on so = so on
refusal_more (Err DiskFault) on so = tt
refusal_more (Err (TooLarge total)) on so = so on
refusal_more (Err (Damaged page)) on so = tt
