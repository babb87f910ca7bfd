-- What a call that opens records answers.
use Rattle.std.specs.Prelude.{Bool, Result, Ok, Err}
use Rattle.ode_keep.specs.Entries.{Entries}
use Rattle.ode_passes.specs.declared.error.OpenError.{OpenError}
use Rattle.ode_passes.specs.declared.error.OpenError.TheVariants.{Memory, DiskFault, BadFile}
use Rattle.ode_value.specs.Language.{Language}
use Rattle.ode_opening_records.specs.Reading.{AreOpened}
use Rattle.ode_opening_records.specs.declared.base.Base.{Base}

-- what they are opened to; want of memory and a fault of the disk may come in place of it
abbrev pub Opens : Bool → Language → Entries → Result Base OpenError → Type 0
Opens first l entries (Ok base) = AreOpened first l entries (Ok base)
Opens first l entries (Err (BadFile why)) = AreOpened first l entries (Err why)
Opens first l entries (Err DiskFault) = Unit {0}
Opens first l entries (Err Memory) = Unit {0}
