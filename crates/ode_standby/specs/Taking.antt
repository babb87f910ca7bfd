-- What a standby makes of the bytes that it is fed.
use Rattle.std.specs.Prelude.{◌≡◌, ◌⊎◌, ◌+◌, ℕ, length, List, [], ◌∷◌, Bool, cond, Some, Result, Ok, Err}
use Rattle.ode_host.specs.View.{View}
use Rattle.ode_keep.specs.Entries.{Entries, applied}
use Rattle.ode_standby.specs.Courses.{Course, IsStopped, IsTaken, after, course, past}
use Rattle.ode_ship.specs.Frames.{Frame}
use Rattle.ode_ship.specs.Streams.{AreFrames}
use Rattle.ode_standby.specs.declared.error.ShipError.{ShipError}
use Rattle.ode_standby.specs.declared.error.ShipError.TheVariants.{Memory, BadFrame, Gap, TooLarge, DiskFault, Damaged}
use Rattle.ode_standby.specs.declared.applying.Taken.{Taken}

-- where a standby is to begin, over these records
abbrev pub from : Entries → ℕ → ℕ → Course
from entries next at = record { entries = entries; next = next; at = at; applied = 0; skipped = 0 }

-- ---- one frame

-- behind it, as it was applied or skipped
abbrev pub behind : Course → Frame → Bool → Course
behind c f done = cond done (after c f) (past c f)

-- A frame does what is meant, and the records behind it are held. Want of memory and a fault of the disk may come in its place.
abbrev pub TakesOne : Result Course ShipError → Course → Frame → (Entries → Type 0) → Result Bool ShipError → Type 0
TakesOne meant c f Holds (Ok done) = (meant ≡ Ok (behind c f done)) × Holds (behind c f done).entries
TakesOne meant c f Holds (Err Memory) = Holds c.entries
TakesOne meant c f Holds (Err DiskFault) = Unit {0}
TakesOne meant c f Holds (Err (Damaged key)) = ⊥
TakesOne meant c f Holds (Err (BadFrame at)) = ⊥
TakesOne meant c f Holds (Err (Gap found next)) = (meant ≡ Err (Gap found next)) × Holds c.entries
TakesOne meant c f Holds (Err (TooLarge total)) = (meant ≡ Err (TooLarge total)) × Holds c.entries

-- A stop leaves the records before it, or where it is the next one those after it; the text is as it was.
pub record LeavesStep (means : List ℕ → Entries → Type 0) (c : Course) (f : Frame) (old : View) (image out : List ℕ) : Type 0 where
  pub whole : means image c.entries ⊎ ((f.0 ≡ c.next) × means image (applied f.1 c.entries))
  pub text : old.text ≡ Some out

-- ---- frames behind one another

-- of these bytes these frames were taken, and led from here to there
pub record Leads (most : ℕ) (c d : Course) (bytes rest : List ℕ) : Type 0 where
  pub frames : List Frame
  pub split : AreFrames bytes frames rest
  pub ends : course most c frames ≡ Ok d

-- some frames were taken, and the records behind them are held
pub record TookSome (most : ℕ) (c : Course) (bytes : List ℕ) (Holds : Entries → Type 0) : Type 0 where
  pub rest : List ℕ
  pub reached : Course
  pub leads : Leads most c reached bytes rest
  pub holds : Holds reached.entries

-- all whole frames were taken, and so many were applied and skipped
pub record TookAll (most : ℕ) (c : Course) (bytes : List ℕ) (Holds : Entries → Type 0) (taken : Taken) : Type 0 where
  pub reached : Course
  pub is : IsTaken most c reached bytes taken.rest.now
  pub applied : taken.applied ≡ reached.applied
  pub skipped : taken.skipped ≡ reached.skipped
  pub at : reached.at + length taken.rest.now ≡ c.at + length bytes
  pub holds : Holds reached.entries

-- the stream itself says so, behind frames that were taken
pub record Stops (most : ℕ) (c : Course) (bytes : List ℕ) (Holds : Entries → Type 0) (error : ShipError) : Type 0 where
  pub reached : Course
  pub is : IsStopped most c reached bytes error
  pub holds : Holds reached.entries

-- Of bytes all whole frames are taken, up to the first that stops a standby. Want of memory and a fault of the disk may come in between.
abbrev pub Takes : ℕ → Course → List ℕ → (Entries → Type 0) → Result Taken ShipError → Type 0
Takes most c bytes Holds (Ok taken) = TookAll most c bytes Holds taken
Takes most c bytes Holds (Err Memory) = TookSome most c bytes Holds
Takes most c bytes Holds (Err DiskFault) = Unit {0}
Takes most c bytes Holds (Err (Damaged key)) = ⊥
Takes most c bytes Holds (Err (BadFrame at)) = Stops most c bytes Holds (BadFrame at)
Takes most c bytes Holds (Err (Gap found next)) = Stops most c bytes Holds (Gap found next)
Takes most c bytes Holds (Err (TooLarge total)) = Stops most c bytes Holds (TooLarge total)

-- the next frame stands in front, and the image is that behind it
pub record IsBehindNext (means : List ℕ → Entries → Type 0) (d : Course) (rest image : List ℕ) : Type 0 where
  pub frame : Frame
  pub behind : List ℕ
  pub split : AreFrames rest (frame ∷ []) behind
  pub next : frame.0 ≡ d.next
  pub whole : means image (applied frame.1 d.entries)

-- A stop leaves the records behind some of the frames, whole, and the text as it was.
pub record LeavesSome (means : List ℕ → Entries → Type 0) (most : ℕ) (c : Course) (bytes : List ℕ) (old : View) (image out : List ℕ) : Type 0 where
  pub rest : List ℕ
  pub reached : Course
  pub leads : Leads most c reached bytes rest
  pub whole : means image reached.entries ⊎ IsBehindNext means reached rest image
  pub text : old.text ≡ Some out
