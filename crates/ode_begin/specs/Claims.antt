-- What a call that opens a file for a run claims, each field a claim: where the file holds a world, and where it breaks a rule. The views are
-- the host's at the start and at the end, and so is what is left of the script.
use Rattle.std.specs.Prelude.{◌≡◌, ℕ, List, Option, Some}
use Rattle.ode_host.specs.FirstSync.{SyncedRun}
use Rattle.ode_host.specs.Host.{Tells}
use Rattle.ode_host.specs.View.{View}
use Rattle.ode_host.specs.declared.status.Status.{Status}
use Rattle.ode_host.specs.declared.status.Status.TheVariants.{BadFile, DiskFault, WriteFault}
use Rattle.ode_machine.specs.Moments.{IsAfterSome}
use Rattle.ode_script.specs.Cutting.{ending_of, pieces}
use Rattle.ode_ends.specs.Statuses.{IsEnding, IsRunStatus}
use Rattle.ode_value.specs.Language.{ListWorld}
use Rattle.ode_begin.specs.Answers.{BreaksRule, IsBadFile, IsBadFileCut, IsIdle, IsNoRun, IsRunOf}
use Rattle.ode_begin.specs.Holds.{Holds}
use Rattle.ode_begin.specs.Stops.{CutShort, IsCut}
use Rattle.ode_machine.specs.Runs.{Item}

-- At the start the script is this one, the disk tells this file, which holds this world, and this was printed.
pub record Finds (script image text : List ℕ) (w : ListWorld) (before : Option (List ℕ)) (old : View) : Type 0 where
  pub given : before ≡ Some script
  pub tells : Tells old image
  pub holds : Holds image w
  pub said : old.text ≡ Some text

-- A run where the file holds a world, by the items that a world and a script come to.
pub record RunsBy (does : ListWorld → List ℕ → List Item) (before after : Option (List ℕ)) (old new : View) (result : Status) : Type 0 where
  -- It is the machine's, whatever the script and the chunks that it comes in.
  pub run : (script image text : List ℕ) (w : ListWorld) → Finds script image text w before old → IsEnding result
      → IsRunOf (does w script) (ending_of (pieces script)) w text after new result
  -- Where the disk, the output or the script fails or memory is short, the file holds the world after some of the settled
  -- transactions, and what is printed is a front of what these print, or a refusal's line behind them.
  pub cut : (script image text : List ℕ) (w : ListWorld) → Finds script image text w before old → IsCut result
      → CutShort (does w script) w text new
  -- So does a stop at any moment from the first sync on, at which the file is as it was at the start. Before it, a stop
  -- leaves what it might have left at the start. The sync lies within the run, unless the disk failed.
  pub stops : (script image text : List ℕ) (w : ListWorld) → Finds script image text w before old
      → SyncedRun old new image (result ≡ DiskFault) (IsAfterSome Holds (does w script) w text)
  -- It ends as the machine does, by a fault, or for want of memory.
  pub answers : (image : List ℕ) (w : ListWorld) → Tells old image → Holds image w → IsRunStatus result

-- A run where the file breaks a rule, and so holds no world.
pub record RunsNone (before after : Option (List ℕ)) (old new : View) (result : Status) : Type 0 where
  pub held : (image : List ℕ) (w : ListWorld) → Tells old image → Holds image w → ¬ BreaksRule image
  pub bad_file : result ≡ BadFile → (image text : List ℕ) → Tells old image → old.text ≡ Some text → BreaksRule image → IsBadFile image text new
  pub no_world : (image : List ℕ) → Tells old image → BreaksRule image → IsNoRun result
  -- Nothing is written, nothing of the script is taken, and nothing is printed but the line.
  pub idle : (image : List ℕ) → Tells old image → BreaksRule image → IsIdle result old new × (after ≡ before)
  pub bad_file_cut : result ≡ WriteFault → (image text : List ℕ) → Tells old image → old.text ≡ Some text → BreaksRule image
      → IsBadFileCut image text new
