-- A file becomes one of the last format: what it is then, and what a stop leaves on the way.
use Rattle.std.specs.Prelude.{◌≡◌, ◌==◌, ℕ, List, [], ◌∷◌, Some, if◌then◌else◌}
use Rattle.ode_areas.specs.Image.{HasMap}
use Rattle.ode_gate.specs.declared.error.GateError.{GateError}
use Rattle.ode_gate.specs.declared.error.GateError.TheVariants as gate
use Rattle.ode_gate.specs.declared.header.Header.{Header}
use Rattle.ode_gate.specs.declared.places.TheConstants.{AREA_1, FORMAT, PAGES, PAGES_AT, REGION_0, REGION_1}
use Rattle.ode_gate.specs.Headers.{IsOfAreas, next_generation}
use Rattle.ode_gate.specs.Slots.{Counts}
use Rattle.ode_host.specs.Host.{Stands}
use Rattle.ode_host.specs.View.{View}
use Rattle.ode_journal.specs.Frames.{IsJournal}
use Rattle.ode_keep.specs.Entries.{Entries}
use Rattle.ode_keep.specs.declared.error.KeepError.{KeepError}
use Rattle.ode_keep.specs.declared.error.KeepError.TheVariants as keep
use Rattle.ode_keep.specs.declared.error.StartError.{StartError}
use Rattle.ode_keep.specs.declared.error.StartError.TheVariants as start
use Rattle.ode_keeper.specs.Files.{FileMeans}
use Rattle.ode_paging.specs.Meaning.{PagesMeanIn}
use Rattle.ode_migrate.specs.declared.error.MigrateError.{MigrateError}
use Rattle.ode_migrate.specs.declared.error.MigrateError.TheVariants.{Memory, DiskFault, Changed}

-- ---- errors of the parts

-- why there is no header to read
abbrev pub gate_error : GateError → MigrateError
gate_error gate.DiskFault = DiskFault
gate_error gate.NoDatabase = Changed 0
gate_error (gate.BadHeader at) = Changed at
gate_error (gate.NewerFormat found) = Changed 0

-- why a keeper isn't started
abbrev pub start_error : StartError → MigrateError
start_error start.Memory = Memory
start_error start.DiskFault = DiskFault
start_error (start.BadJournal at) = Changed at
start_error (start.BadPage page) = Changed 0

-- why it doesn't answer
abbrev pub keep_error : KeepError → MigrateError
keep_error keep.Memory = Memory
keep_error keep.DiskFault = DiskFault
keep_error (keep.TooLarge total) = Changed 0
keep_error (keep.Damaged page) = Changed 0

-- ---- what the file is then

-- the image stands for these records, in pages and in the last format
abbrev pub IsMigrated : List ℕ → Entries → Type 0
IsMigrated image entries = PagesMeanIn FORMAT image entries

-- such an image stands on the disk
pub record IsMigratedTo (entries : Entries) (view : View) : Type 0 where
  pub image : List ℕ
  pub stands : Stands image view
  pub migrated : IsMigrated image entries

-- the image stands for these records, in one format or the other, and the text is as it was
pub record LeavesRecords (entries : Entries) (old : View) (image out : List ℕ) : Type 0 where
  pub means : FileMeans image entries
  pub text : old.text ≡ Some out

-- ---- the steps

-- the slot that isn't this one
abbrev pub beside : ℕ → ℕ
beside slot = if slot == 0 then 1 else 0

-- the header after one of pages: that one, in the last format
abbrev pub renewed : Header → Header
renewed older = record older { format = FORMAT; generation = next_generation older.generation; slot = beside older.slot }

-- the header after one of area 1: no page is in place, and the journal is in region 0
abbrev pub paged : Header → Header
paged older = record {
  format = FORMAT;
  layout = PAGES;
  generation = next_generation older.generation;
  body_at = PAGES_AT;
  body_len = 0;
  journal_at = REGION_0;
  journal_end = REGION_1;
  slot = beside older.slot;
}

-- a file stands on the disk in which this header counts, and under it area 1 has these records
pub record StandInOne (header : Header) (entries : Entries) (view : View) : Type 0 where
  pub file : List ℕ
  pub stands : Stands file view
  pub counts : Counts file header
  pub areas : IsOfAreas header
  pub in_one : header.body_at ≡ AREA_1
  pub has : HasMap header file entries

-- and region 0 has a journal of this frame alone
pub record IsStaged (header : Header) (entries : Entries) (payload : List ℕ) (view : View) : Type 0 where
  pub stand : StandInOne header entries view
  pub journal : IsJournal REGION_0 REGION_1 (payload ∷ []) stand.file
