-- What a call is answered with that opens a file.
use Rattle.std.specs.Prelude.{◌≡◌, ◌⊎◌, ℕ, List, [], ◌++◌, take, Option, Some, Err, codes}
use Rattle.ode_causes.specs.Lines.{cause_line, format_line}
use Rattle.ode_host.specs.Host.{Spares, Stands, Tells}
use Rattle.ode_host.specs.View.{View}
use Rattle.ode_host.specs.declared.status.Status.{Status}
use Rattle.ode_host.specs.declared.status.Status.TheVariants as status
use Rattle.ode_machine.specs.Runs.{Item, any_refused, final, status_at, text_of}
use Rattle.ode_open.specs.Opening.{IsOpenedTo}
use Rattle.ode_open.specs.declared.error.OpenError.{OpenError}
use Rattle.ode_open.specs.declared.error.OpenError.TheVariants.{Memory, DiskFault, NoDatabase, NewerFormat, BadFile}
use Rattle.ode_ends.specs.Endings.{LeavesNothing}
use Rattle.ode_value.specs.Language.{ListWorld}
use Rattle.ode_value.specs.Texts.{line}
use Rattle.ode_begin.specs.Holds.{Holds}
use Rattle.ode_script.specs.Cutting.{Ending}

-- The file holds this world, and so does each that a stop from now on leaves, as long as nothing more is written; this is
-- what was printed.
pub record FileEndsWith (view : View) (w : ListWorld) (text : List ℕ) : Type 0 where
  pub image : List ℕ
  pub stands : Stands image view
  pub holds : Holds image w
  pub printed : view.text ≡ Some text

-- A run of these items from a world, behind this text and with this ending of its script, is the machine's: its status, its text, and the
-- world that the file then holds. Nothing of the script is left where it was read to its end.
pub record IsRunOf (items : List Item) (ending : Ending) (w : ListWorld) (text : List ℕ) (left : Option (List ℕ)) (view : View) (status : Status) : Type 0 where
  pub stated : status ≡ status_at ending (any_refused items)
  pub ends : FileEndsWith view (final w items) (text ++ text_of items)
  pub nothing : LeavesNothing status left

-- A rule is broken that a file must keep, from its slots to the references among its objects: the first of them.
abbrev pub BreaksRule : List ℕ → Type 0
BreaksRule image = (why : OpenError) × IsOpenedTo image (Err why)

-- the line of a broken rule; want of memory and a fault of the disk are none
abbrev pub why_line : OpenError → List ℕ
why_line NoDatabase = line (codes "no database")
why_line (NewerFormat found) = format_line found
why_line (BadFile cause) = cause_line cause
why_line Memory = []
why_line DiskFault = []

-- what is said of a file that breaks a rule is the line of the first one
abbrev pub SaysWhy : List ℕ → List ℕ → Type 0
SaysWhy image said = (why : OpenError) × IsOpenedTo image (Err why) × (said ≡ why_line why)

-- The file breaks a rule, stayed as it was, and it was said.
pub record IsBadFile (image text : List ℕ) (view : View) : Type 0 where
  pub tells : Tells view image
  pub said : List ℕ
  pub reason : SaysWhy image said
  pub printed : view.text ≡ Some (text ++ said)

-- a front of this was printed behind the text, and no more
abbrev pub SaidFront : List ℕ → List ℕ → View → Type 0
SaidFront said text view = (n : ℕ) × (view.text ≡ Some (text ++ take n said))

-- The print failed of the line that says which way a file breaks a rule.
pub record IsBadFileCut (image text : List ℕ) (view : View) : Type 0 where
  pub said : List ℕ
  pub reason : SaysWhy image said
  pub front : SaidFront said text view

-- the statuses that a run may end with where the file breaks a rule
abbrev pub IsNoRun : Status → Type 0
IsNoRun status.BadFile = Unit {0}
IsNoRun status.DiskFault = Unit {0}
IsNoRun status.WriteFault = Unit {0}
IsNoRun status.Memory = Unit {0}
IsNoRun status.Ok = ⊥
IsNoRun status.Refused = ⊥
IsNoRun status.Usage = ⊥
IsNoRun status.ReadFault = ⊥
IsNoRun status.LongStatement = ⊥
IsNoRun status.LongScript = ⊥

-- the statuses of a file that isn't opened for this reason, where its line may lack memory or fail to be printed
abbrev pub EndsFor : OpenError → Status → Type 0
EndsFor Memory s = s ≡ status.Memory
EndsFor DiskFault s = s ≡ status.DiskFault
EndsFor NoDatabase s = (s ≡ status.BadFile) ⊎ (s ≡ status.WriteFault)
EndsFor (NewerFormat found) s = (s ≡ status.Memory) ⊎ ((s ≡ status.BadFile) ⊎ (s ≡ status.WriteFault))
EndsFor (BadFile cause) s = (s ≡ status.Memory) ⊎ ((s ≡ status.BadFile) ⊎ (s ≡ status.WriteFault))

-- the statuses that have no line of their own, where nothing was run
abbrev pub IsSilent : Status → Type 0
IsSilent status.DiskFault = Unit {0}
IsSilent status.Memory = Unit {0}
IsSilent status.Ok = ⊥
IsSilent status.Refused = ⊥
IsSilent status.Usage = ⊥
IsSilent status.BadFile = ⊥
IsSilent status.ReadFault = ⊥
IsSilent status.WriteFault = ⊥
IsSilent status.LongStatement = ⊥
IsSilent status.LongScript = ⊥

-- Nothing was written, whatever the status, and nothing was printed where the status has no line of its own.
pub record IsIdle (status : Status) (old new : View) : Type 0 where
  pub spares : Spares old new
  pub silent : IsSilent status → new.text ≡ old.text
