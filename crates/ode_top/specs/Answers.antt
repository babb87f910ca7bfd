-- What a call of the program is answered with.
use Rattle.std.specs.Prelude.{◌≡◌, ◌⊎◌, ◌==◌, ℕ, List, [], ◌∷◌, ◌++◌, true, Option, Some, Ok, codes}
use Rattle.ode_keeper.specs.Files.{FileMeans}
use Rattle.ode_dump.specs.Dumping.{check_text, dump_text}
use Rattle.ode_host.specs.Host.{Stands, Tells}
use Rattle.ode_host.specs.View.{View}
use Rattle.ode_host.specs.declared.status.Status.{Status}
use Rattle.ode_host.specs.declared.status.Status.TheVariants as status
use Rattle.ode_keep.specs.Entries.{Entries}
use Rattle.ode_language.specs.Languages.{ode}
use Rattle.ode_gate.specs.declared.places.TheConstants.{FIRST_FORMAT}
use Rattle.ode_gen.specs.Generating.{gen_line, gen_script}
use Rattle.ode_machine.specs.Runs.{Item, Refuses, run_status, run_world, trace}
use Rattle.ode_make.specs.Making.{IsInUse, IsInitialised, first_frame}
use Rattle.ode_open.specs.Opening.{HasFormat}
use Rattle.ode_opening_records.specs.Reading.{AreOpened}
use Rattle.ode_opening_records.specs.declared.base.Base.{Base}
use Rattle.ode_questions.specs.Scripts.{script_status, script_text}
use Rattle.ode_questions.specs.declared.asked.Asked.{Asked}
use Rattle.ode_script.specs.Cutting.{pieces, ending_of}
use Rattle.ode_trace.specs.Hearing.{heard_items}
use Rattle.ode_ends.specs.Endings.{LeavesNothing}
use Rattle.ode_trace.specs.Tallies.{tally_of}
use Rattle.ode_trace.specs.declared.tally.Tally.{Tally}
use Rattle.ode_value.specs.Language.{ListWorld}
use Rattle.ode_value.specs.Texts.{line}
use Rattle.ode_value.specs.Worlds.{empty_world}
use Rattle.ode_value.specs.declared.class.Class.{Class}
use Rattle.ode_top.specs.Calls.{call_of}
use Rattle.ode_begin.specs.Holds.{Holds}
use Rattle.ode_top.specs.declared.call.Mode.{Mode}
use Rattle.ode_top.specs.declared.call.Mode.TheVariants as mode
use Rattle.ode_begin.specs.Answers.{FileEndsWith, IsRunOf, SaidFront, SaysWhy}

-- the words are this mode's, and a file
abbrev pub Asks : Mode → List (List ℕ) → Type 0
Asks mode words = (file : List ℕ) × (call_of words ≡ Some (mode, file))

-- they are a mode's that reads a script
abbrev pub ReadsScript : List (List ℕ) → Type 0
ReadsScript words = Asks mode.Run words ⊎ (Asks mode.Ship words ⊎ (Asks mode.Follow words ⊎ ((asked : Asked) × Asks (mode.Ask asked) words)))

abbrev pub usage_line : List ℕ
usage_line = line (codes "usage: ode (init|run|check|dump|query|same|ship|follow) FILE | ode gen FILE N")

-- The run of a whole script from a world, behind this text, is the machine's.
abbrev pub IsMachineRun : List ℕ → ListWorld → List ℕ → Option (List ℕ) → View → Status → Type 0
IsMachineRun script w text left view status = IsRunOf (trace ode w script) (ending_of (pieces script)) w text left view status

-- the line of a number and what its script came to
abbrev pub counts_line : ℕ → Tally → List ℕ
counts_line number t = gen_line number t.pieces t.settled t.refused t.bytes

-- what the script of a number comes to in a world
abbrev pub gen_tally : ℕ → ListWorld → Tally
gen_tally number w = tally_of (pieces (gen_script number)) (trace ode w (gen_script number))

-- what is said of it
abbrev pub gen_said : ℕ → ListWorld → List ℕ
gen_said number w = counts_line number (gen_tally number w)

-- Nothing is heard of the run of a number's script, and then its line, which settles nothing.
abbrev pub gen_items : ℕ → ListWorld → List Item
gen_items number w = heard_items true (trace ode w (gen_script number)) ++ (Refuses (gen_said number w) ∷ [])

-- The run of a number's script from a world, behind this text, is the machine's: its status, the world that the file then holds, and
-- what is said of it.
pub record IsGenerated (number : ℕ) (w : ListWorld) (text : List ℕ) (view : View) (status : Status) : Type 0 where
  pub stated : status ≡ run_status ode w (gen_script number)
  pub ends : FileEndsWith view (run_world ode w (gen_script number)) (text ++ gen_said number w)

-- A new file was made of this one, which every stop leaves: the parts of an empty database stand at their places, every
-- other byte of the file stayed, and it was said.
pub record IsMade (file text : List ℕ) (view : View) : Type 0 where
  pub image : List ℕ
  pub stands : Stands image view
  pub made : IsInitialised first_frame file image
  pub holds : Holds image empty_world
  pub printed : view.text ≡ Some (text ++ line (codes "ready"))

-- The file was in use, stayed as it was, and it was said.
pub record IsRefused (file text : List ℕ) (view : View) : Type 0 where
  pub in_use : IsInUse file
  pub tells : Tells view file
  pub printed : view.text ≡ Some (text ++ line (codes "file exists"))

-- The print failed of the line that says what `init` did.
pub record IsInitCut (file text : List ℕ) (view : View) : Type 0 where
  pub said : List ℕ
  pub reason : (IsInUse file × (said ≡ line (codes "file exists"))) ⊎ ((¬ IsInUse file) × (said ≡ line (codes "ready")))
  pub front : SaidFront said text view

-- what `check` and `dump` print of records, by the classes that they declare
abbrev pub mode_text : Mode → List Class → Entries → List ℕ
mode_text mode.Check classes entries = check_text entries
mode_text mode.Dump classes entries = dump_text classes entries
mode_text mode.Init classes entries = []
mode_text mode.Run classes entries = []
mode_text (mode.Ask asked) classes entries = []
mode_text mode.Ship classes entries = []
mode_text mode.Follow classes entries = []
mode_text (mode.Gen number) classes entries = []

-- The records of a file, and what they are opened to in its format; this is said of them.
pub record SaysRecords (m : Mode) (image said : List ℕ) : Type 0 where
  pub format : ℕ
  pub has : HasFormat image format
  pub entries : Entries
  pub base : Base
  pub means : FileMeans image entries
  pub opened : AreOpened (format == FIRST_FORMAT) ode entries (Ok base)
  pub is : said ≡ mode_text m base.classes entries

-- The file was opened, stayed as it was, and this was said of its records.
pub record IsInspected (m : Mode) (image text : List ℕ) (view : View) : Type 0 where
  pub tells : Tells view image
  pub said : List ℕ
  pub records : SaysRecords m image said
  pub printed : view.text ≡ Some (text ++ said)

-- The print failed of what is said of a file's records, or of the line that says which way the file breaks a rule.
pub record IsInspectedCut (m : Mode) (image text : List ℕ) (view : View) : Type 0 where
  pub said : List ℕ
  pub reason : SaysRecords m image said ⊎ SaysWhy image said
  pub front : SaidFront said text view

-- The questions of a script were answered: their status and their text are those of the world that the file holds, which stayed as it was.
-- Nothing of the script is left where it was read to its end.
pub record AreAnswered (asked : Asked) (script image : List ℕ) (w : ListWorld) (text : List ℕ) (left : Option (List ℕ)) (view : View) (status : Status) : Type 0 where
  pub stated : status ≡ script_status asked w.bones script
  pub tells : Tells view image
  pub printed : view.text ≡ Some (text ++ script_text asked w.bones script)
  pub nothing : LeavesNothing status left

-- They were cut short: a front of the text was printed.
pub record AreAnsweredInPart (asked : Asked) (script image : List ℕ) (w : ListWorld) (text : List ℕ) (view : View) : Type 0 where
  pub tells : Tells view image
  pub front : SaidFront (script_text asked w.bones script) text view

-- the statuses that `init` may end with
abbrev pub IsInitStatus : Status → Type 0
IsInitStatus status.Ok = Unit {0}
IsInitStatus status.BadFile = Unit {0}
IsInitStatus status.DiskFault = Unit {0}
IsInitStatus status.WriteFault = Unit {0}
IsInitStatus status.Refused = ⊥
IsInitStatus status.Usage = ⊥
IsInitStatus status.ReadFault = ⊥
IsInitStatus status.Memory = ⊥
IsInitStatus status.LongStatement = ⊥
IsInitStatus status.LongScript = ⊥

-- the statuses that the run of a number's script may end with
abbrev pub IsGenStatus : Status → Type 0
IsGenStatus status.Ok = Unit {0}
IsGenStatus status.Refused = Unit {0}
IsGenStatus status.DiskFault = Unit {0}
IsGenStatus status.WriteFault = Unit {0}
IsGenStatus status.Memory = Unit {0}
IsGenStatus status.Usage = ⊥
IsGenStatus status.BadFile = ⊥
IsGenStatus status.ReadFault = ⊥
IsGenStatus status.LongStatement = ⊥
IsGenStatus status.LongScript = ⊥

-- the statuses that a `check` or a `dump` may end with
abbrev pub IsInspectStatus : Status → Type 0
IsInspectStatus status.Ok = Unit {0}
IsInspectStatus status.BadFile = Unit {0}
IsInspectStatus status.DiskFault = Unit {0}
IsInspectStatus status.WriteFault = Unit {0}
IsInspectStatus status.Memory = Unit {0}
IsInspectStatus status.Refused = ⊥
IsInspectStatus status.Usage = ⊥
IsInspectStatus status.ReadFault = ⊥
IsInspectStatus status.LongStatement = ⊥
IsInspectStatus status.LongScript = ⊥
