-- What a call of the program claims, each field a claim: of a run where the file holds a world, of one that ships there, of one of a
-- number's script there, of one where the file breaks a rule, of `init`, of `check` and `dump`, and of `query` and `same`. The views are the
-- host's at the start and at the end, and so is what is left of the script.
use Rattle.std.specs.Prelude.{◌≡◌, ◌≢◌, ℕ, List, Option, Some}
use Rattle.ode_host.specs.FirstSync.{SyncedRun}
use Rattle.ode_host.specs.Host.{Spares, Tells}
use Rattle.ode_host.specs.View.{View}
use Rattle.ode_host.specs.declared.status.Status.{Status}
use Rattle.ode_host.specs.declared.status.Status.TheVariants.{Ok, BadFile, DiskFault, WriteFault}
use Rattle.ode_gate.specs.declared.places.TheConstants.{FORMAT}
use Rattle.ode_keep.specs.Entries.{Entries}
use Rattle.ode_keeper.specs.Files.{FileMeans}
use Rattle.ode_language.specs.Languages.{ode}
use Rattle.ode_machine.specs.Moments.{IsAfterSome}
use Rattle.ode_machine.specs.Runs.{trace}
use Rattle.ode_make.specs.Making.{IsInUse}
use Rattle.ode_paging.specs.Meaning.{PagesMeanIn}
use Rattle.ode_questions.specs.declared.asked.Asked.{Asked}
use Rattle.ode_script.specs.Cutting.{ending_of, pieces}
use Rattle.ode_trace.specs.Shipping.{ShippedAs}
use Rattle.ode_ends.specs.Statuses.{IsEnding, IsRunStatus}
use Rattle.ode_value.specs.Language.{ListWorld}
use Rattle.ode_begin.specs.Answers.{BreaksRule, IsBadFile, IsIdle, IsSilent}
use Rattle.ode_top.specs.Answers.{AreAnswered, AreAnsweredInPart, IsGenStatus, IsGenerated, IsInitCut, IsInitStatus, IsInspectStatus, IsInspected, IsInspectedCut, IsMade, IsRefused, gen_items}
use Rattle.ode_begin.specs.Holds.{Holds}
use Rattle.ode_begin.specs.Stops.{CutShort, IsCut, IsCutAt}
use Rattle.ode_top.specs.Stops.{ShipsSoFar}
use Rattle.ode_top.specs.declared.call.Mode.{Mode}
use Rattle.ode_begin.specs.Claims.{Finds, RunsBy}

-- A run where the file holds a world.
abbrev pub RunsWorld : Option (List ℕ) → Option (List ℕ) → View → View → Status → Type 0
RunsWorld = RunsBy (trace ode)

-- A run that ships, where the file holds a world in these records. One of the first format is migrated first, and has the same records.
pub record ShipsWorld (before after : Option (List ℕ)) (old new : View) (result : Status) : Type 0 where
  -- It prints one frame in place of the text of each transaction that the machine settles.
  pub run : (script image text : List ℕ) (w : ListWorld) (entries : Entries) → Finds script image text w before old → FileMeans image entries → IsEnding result
      → ShippedAs (PagesMeanIn FORMAT) (trace ode w script) (ending_of (pieces script)) w entries text after new result
  -- Where the disk, the output or the script fails or memory is short, the file holds the world after some of the settled transactions, and
  -- what is printed is a front of the frames of some of the first of these.
  pub cut : (script image text : List ℕ) (w : ListWorld) (entries : Entries) → Finds script image text w before old → FileMeans image entries → IsCut result
      → IsCutAt (ShipsSoFar (trace ode w script) w entries text) new
  -- So does a stop at any moment from the first sync on, at which the file is as it was at the start. Before it, a stop leaves what it might
  -- have left at the start. The sync lies within the run, unless the disk failed.
  pub stops : (script image text : List ℕ) (w : ListWorld) (entries : Entries) → Finds script image text w before old → FileMeans image entries
      → SyncedRun old new image (result ≡ DiskFault) (ShipsSoFar (trace ode w script) w entries text)
  -- It ends as the machine does, by a fault, or for want of memory.
  pub answers : (image : List ℕ) (w : ListWorld) → Tells old image → Holds image w → IsRunStatus result

-- A run of a number's script where the file holds a world.
pub record Generates (number : ℕ) (old new : View) (result : Status) : Type 0 where
  -- It is the machine's.
  pub run : (image text : List ℕ) (w : ListWorld) → Tells old image → Holds image w → old.text ≡ Some text → IsEnding result → IsGenerated number w text new result
  -- Where the disk or the output fails or memory is short, the file holds the world after some of the settled transactions, and what is
  -- printed is a front of the line, and that only behind the last of them.
  pub cut : (image text : List ℕ) (w : ListWorld) → Tells old image → Holds image w → old.text ≡ Some text → IsCut result → CutShort (gen_items number w) w text new
  -- So does a stop at any moment from the first sync on, at which the file is as it was at the start. Before it, a stop leaves what it
  -- might have left at the start. The sync lies within the run, unless the disk failed.
  pub stops : (image text : List ℕ) (w : ListWorld) → Tells old image → Holds image w → old.text ≡ Some text
      → SyncedRun old new image (result ≡ DiskFault) (IsAfterSome Holds (gen_items number w) w text)
  -- It ends as the machine does, which never meets a limit there, by a fault, or for want of memory.
  pub answers : (image text : List ℕ) (w : ListWorld) → Tells old image → Holds image w → old.text ≡ Some text → IsGenStatus result

-- An `init`. A file in use stays as it was, whatever the status.
pub record Initialises (old new : View) (result : Status) : Type 0 where
  pub made : result ≡ Ok → (file text : List ℕ) → Tells old file → old.text ≡ Some text → IsMade file text new
  pub exists : result ≡ BadFile → (file text : List ℕ) → Tells old file → old.text ≡ Some text → IsRefused file text new
  pub in_use : (file : List ℕ) → Tells old file → IsInUse file → result ≢ Ok
  pub init : IsInitStatus result
  pub init_cut : result ≡ WriteFault → (file text : List ℕ) → Tells old file → old.text ≡ Some text → IsInitCut file text new
  pub spared : (file : List ℕ) → Tells old file → IsInUse file → IsIdle result old new
  pub silent : IsSilent result → new.text ≡ old.text

-- A `check` or a `dump`. The file stays as it was, whatever the status.
pub record Inspects (mode : Mode) (old new : View) (result : Status) : Type 0 where
  pub said : result ≡ Ok → (image text : List ℕ) → Tells old image → old.text ≡ Some text → IsInspected mode image text new
  pub bad_file : result ≡ BadFile → (image text : List ℕ) → Tells old image → old.text ≡ Some text → IsBadFile image text new
  pub cut : result ≡ WriteFault → (image text : List ℕ) → Tells old image → old.text ≡ Some text → IsInspectedCut mode image text new
  pub keeps : (image : List ℕ) → Tells old image → ¬ BreaksRule image → result ≢ BadFile
  pub breaks : (image : List ℕ) → Tells old image → BreaksRule image → result ≢ Ok
  pub answers : IsInspectStatus result
  -- Nothing is written, and nothing is printed where the status has no line.
  pub idle : IsIdle result old new

-- A `query` or a `same` where the file holds a world. The file stays as it was, whatever it holds.
pub record Questions (asked : Asked) (before after : Option (List ℕ)) (old new : View) (result : Status) : Type 0 where
  -- The text and the status are those of the world, whatever the script and the chunks that it comes in.
  pub answered : (script image text : List ℕ) (w : ListWorld) → Finds script image text w before old → IsEnding result
      → AreAnswered asked script image w text after new result
  -- Where the disk, the output or the script fails or memory is short, a front of the text was printed.
  pub cut : (script image text : List ℕ) (w : ListWorld) → Finds script image text w before old → IsCut result
      → AreAnsweredInPart asked script image w text new
  -- It ends as the script does, by a fault, or for want of memory.
  pub answers : (image : List ℕ) (w : ListWorld) → Tells old image → Holds image w → IsRunStatus result
  -- Nothing is written.
  pub spares : Spares old new
