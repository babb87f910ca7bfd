-- What a file is opened to, and what the opening answers.
use Rattle.std.specs.Prelude.{◌≡◌, ◌⊎◌, ◌==◌, ℕ, List, Result, Ok, Err}
use Rattle.ode_gate.specs.Readings.{Says}
use Rattle.ode_gate.specs.Slots.{Counts}
use Rattle.ode_gate.specs.declared.error.GateError.{GateError}
use Rattle.ode_gate.specs.declared.error.GateError.TheVariants as gate
use Rattle.ode_gate.specs.declared.header.Header.{Header}
use Rattle.ode_gate.specs.declared.places.TheConstants.{FIRST_FORMAT}
use Rattle.ode_keep.specs.Entries.{Entries}
use Rattle.ode_keeper.specs.Files.{HasMap, IsBadJournal, IsBadPage}
use Rattle.ode_keep.specs.declared.error.StartError.{StartError}
use Rattle.ode_keep.specs.declared.error.StartError.TheVariants as start
use Rattle.ode_language.specs.Languages.{ode}
use Rattle.ode_passes.specs.Rules.{Ruled}
use Rattle.ode_passes.specs.declared.cause.Cause.TheVariants as cause
use Rattle.ode_passes.specs.declared.error.OpenError.{OpenError as ReadError}
use Rattle.ode_passes.specs.declared.error.OpenError.TheVariants as read
use Rattle.ode_opening_records.specs.Reading.{AreOpened}
use Rattle.ode_opening_records.specs.declared.base.Base.{Base}
use Rattle.ode_open.specs.declared.error.OpenError.{OpenError}
use Rattle.ode_open.specs.declared.error.OpenError.TheVariants.{Memory, DiskFault, NoDatabase, NewerFormat, BadFile}
use Rattle.ode_opened.specs.declared.opened.Opened.{Opened}
use Rattle.ode_schema.specs.Parts.{Parts}

-- ---- errors of the parts

-- why there is no header to read
abbrev pub gate_error : GateError → OpenError
gate_error gate.DiskFault = DiskFault
gate_error gate.NoDatabase = NoDatabase
gate_error (gate.BadHeader at) = BadFile (cause.Header at)
gate_error (gate.NewerFormat found) = NewerFormat found

-- why a keeper isn't started
abbrev pub start_error : StartError → OpenError
start_error start.Memory = Memory
start_error start.DiskFault = DiskFault
start_error (start.BadJournal at) = BadFile (cause.Journal at)
start_error (start.BadPage page) = BadFile (cause.Page page)

-- why records aren't opened
abbrev pub read_error : ReadError → OpenError
read_error read.Memory = Memory
read_error read.DiskFault = DiskFault
read_error (read.BadFile why) = BadFile why

-- ---- what a file is opened to

-- what its records are opened to, or why it isn't opened
abbrev pub Found : Type 0
Found = Result Base OpenError

abbrev pub found_of : Ruled Base → Found
found_of (Ok base) = Ok base
found_of (Err why) = Err (BadFile why)

-- no header counts
pub record IsHeaderless (image : List ℕ) (found : Found) : Type 0 where
  pub error : GateError
  pub says : Says image (Err error)
  pub is : found ≡ Err (gate_error error)

-- the snapshot or the journal is bad at a place
pub record IsBroken (image : List ℕ) (found : Found) : Type 0 where
  pub header : Header
  pub counts : Counts image header
  pub at : ℕ
  pub bad : IsBadJournal header image at
  pub is : found ≡ Err (BadFile (cause.Journal at))

-- a page is bad, behind a journal that is whole
pub record HasBadPage (image : List ℕ) (found : Found) : Type 0 where
  pub header : Header
  pub counts : Counts image header
  pub page : ℕ
  pub bad : IsBadPage header image page
  pub is : found ≡ Err (BadFile (cause.Page page))

-- it has records, which are opened or break a rule
pub record HasRecords (image : List ℕ) (found : Found) : Type 0 where
  pub header : Header
  pub counts : Counts image header
  pub entries : Entries
  pub has : HasMap header image entries
  pub opened : Ruled Base
  pub are : AreOpened (header.format == FIRST_FORMAT) ode entries opened
  pub is : found ≡ found_of opened

abbrev pub IsOpenedTo : List ℕ → Found → Type 0
IsOpenedTo image found =
    IsHeaderless image found ⊎ (IsBroken image found ⊎ (HasBadPage image found ⊎ HasRecords image found))

-- ---- what is answered

-- the header that counts has this format
pub record HasFormat (image : List ℕ) (format : ℕ) : Type 0 where
  pub header : Header
  pub counts : Counts image header
  pub is : format ≡ header.format

-- an opened file but for its keeper
abbrev pub base_in : {K : Type 0} → Opened K → Base
base_in o = record { classes = o.classes; tables = o.tables; alphabets = o.alphabets; maps = o.maps; bytes = o.bytes }

abbrev pub seen : {K : Type 0} → Result (Opened K) OpenError → Found
seen (Ok o) = Ok (base_in o)
seen (Err e) = Err e

-- there was no memory, or the disk failed
abbrev pub IsFromOutside : OpenError → Type 0
IsFromOutside Memory = Unit {0}
IsFromOutside DiskFault = Unit {0}
IsFromOutside _ = ⊥

abbrev pub HasOutsideFailed : {X : Type 0} → Result X OpenError → Type 0
HasOutsideFailed (Ok x) = ⊥
HasOutsideFailed (Err e) = IsFromOutside e

-- an error is what the file is opened to, unless the outside failed
abbrev pub IsRefused : {X : Type 0} → List ℕ → Result X OpenError → Type 0
IsRefused image (Ok x) = Unit {0}
IsRefused image (Err e) = IsFromOutside e ⊎ IsOpenedTo image (Err e)

-- ---- what a stop leaves

-- this image, and this text
abbrev pub Stays : List ℕ → List ℕ → List ℕ → List ℕ → Type 0
Stays image text c o = (c ≡ image) × (o ≡ text)

-- ---- what runs

-- the classes, with the tables and the alphabets of their triggers
abbrev pub program_of : {K : Type 0} → Opened K → Parts
program_of o = record { classes = o.classes; tables = o.tables; alphabets = o.alphabets; maps = o.maps }
