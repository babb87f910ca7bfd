-- What a run of a script of questions says of it, over the world that the records hold.
use Rattle.std.specs.Prelude.{◌≡◌, ℕ, List, [], ◌++◌, take, Option, Some, Result, Ok, Err}
use Rattle.ode_host.specs.View.{View}
use Rattle.ode_host.specs.declared.status.Status.{Status}
use Rattle.ode_host.specs.declared.status.Status.TheVariants as status
use Rattle.ode_value.specs.Worlds.{Bones}
use Rattle.ode_value.specs.declared.key.Key.{Key}
use Rattle.ode_questions.specs.Scripts.{script_status, script_text}
use Rattle.ode_questions.specs.declared.asked.Asked.{Asked}

-- it ended by itself: the status and what was printed behind the text are the script's
pub record IsEnded (asked : Asked) (b : Bones) (script text : List ℕ) (view : View) (status : Status) : Type 0 where
  pub stated : status ≡ script_status asked b script
  pub printed : view.text ≡ Some (text ++ script_text asked b script)

-- it was cut short: a front of what the script prints was printed
abbrev pub IsFront : List ℕ → List ℕ → View → Type 0
IsFront whole text view = (n : ℕ) × (view.text ≡ Some (text ++ take n whole))

-- by the status that it ends with, or by a record that is damaged, which none is
abbrev pub IsAnswered : Asked → Bones → List ℕ → List ℕ → Option (List ℕ) → View → Result Status Key → Type 0
IsAnswered asked b script text left view (Ok status.Ok) = IsEnded asked b script text view status.Ok × (left ≡ Some [])
IsAnswered asked b script text left view (Ok status.Refused) = IsEnded asked b script text view status.Refused × (left ≡ Some [])
IsAnswered asked b script text left view (Ok status.LongStatement) = IsEnded asked b script text view status.LongStatement
IsAnswered asked b script text left view (Ok status.LongScript) = IsEnded asked b script text view status.LongScript
IsAnswered asked b script text left view (Ok status.DiskFault) = IsFront (script_text asked b script) text view
IsAnswered asked b script text left view (Ok status.ReadFault) = IsFront (script_text asked b script) text view
IsAnswered asked b script text left view (Ok status.WriteFault) = IsFront (script_text asked b script) text view
IsAnswered asked b script text left view (Ok status.Memory) = IsFront (script_text asked b script) text view
IsAnswered asked b script text left view (Ok status.Usage) = ⊥
IsAnswered asked b script text left view (Ok status.BadFile) = ⊥
IsAnswered asked b script text left view (Err key) = ⊥

-- the statuses that a run may end with
abbrev pub IsPossible : Result Status Key → Type 0
IsPossible (Ok status.Usage) = ⊥
IsPossible (Ok status.BadFile) = ⊥
IsPossible _ = Unit {0}
