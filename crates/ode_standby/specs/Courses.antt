-- What frames come to, one after another: they are skipped or applied, or one of them ends the course.
use Rattle.std.specs.Prelude.{◌≡◌, ◌+◌, ℕ, suc, List, [], ◌∷◌, length, nat_lt, Option, Result, Ok, Err, if◌then◌else◌}
use Rattle.ode_value.specs.Keys.{counters_key}
use Rattle.ode_keep.specs.Entries.{Entries, applied, record_bytes, value_under}
use Rattle.ode_ship.specs.Frames.{Frame, frame_bytes, next_by}
use Rattle.ode_ship.specs.Streams.{AreFrames, IsBad, IsBegun}
use Rattle.ode_standby.specs.declared.error.ShipError.{ShipError}
use Rattle.ode_standby.specs.declared.error.ShipError.TheVariants.{BadFrame, Gap, TooLarge}

-- the maps after each frame's changes
abbrev pub follows : Entries → List Frame → List Entries
follows entries [] = []
follows entries (f ∷ fs) = applied f.1 entries ∷ follows (applied f.1 entries) fs

-- the number of the next transaction, as a map tells it
abbrev pub next_of : Entries → Option ℕ
next_of entries = next_by (value_under entries counters_key)

-- Where a standby stands: its map, the number of the next transaction, the place in the stream behind the last whole
-- frame, and how many frames were applied and skipped.
pub record Course : Type 0 where
  pub entries : Entries
  pub next : ℕ
  pub at : ℕ
  pub applied : ℕ
  pub skipped : ℕ

abbrev pub past : Course → Frame → Course
past c f = record { entries = c.entries; next = c.next; at = c.at + length (frame_bytes f); applied = c.applied; skipped = suc c.skipped }

abbrev pub after : Course → Frame → Course
after c f = record { entries = applied f.1 c.entries; next = suc c.next; at = c.at + length (frame_bytes f); applied = suc c.applied; skipped = c.skipped }

-- a frame, where a keeper takes so many record bytes at most
abbrev pub step : ℕ → Course → Frame → Result Course ShipError
step most c f =
    if nat_lt f.0 c.next then Ok (past c f)
    else if nat_lt c.next f.0 then Err (Gap f.0 c.next)
    else if nat_lt most (record_bytes (applied f.1 c.entries)) then Err (TooLarge (record_bytes (applied f.1 c.entries)))
    else Ok (after c f)

-- frames, up to the first that ends the course
abbrev pub course_on : {A : Type 0} → Result Course ShipError → (Course → Result A ShipError) → Result A ShipError
course_on (Ok c) next = next c
course_on (Err e) next = Err e

abbrev pub course : ℕ → Course → List Frame → Result Course ShipError
course most c [] = Ok c
course most c (f ∷ fs) = course_on (step most c f) (λ d. course most d fs)

-- of these bytes all whole frames are taken, and what is left begins one
pub record IsTaken (most : ℕ) (c d : Course) (bytes rest : List ℕ) : Type 0 where
  pub frames : List Frame
  pub split : AreFrames bytes frames rest
  pub ends : course most c frames ≡ Ok d
  pub begun : IsBegun rest

-- a whole frame stands in front and ends the course so
pub record IsEndOf (most : ℕ) (d : Course) (rest : List ℕ) (error : ShipError) : Type 0 where
  pub frame : Frame
  pub behind : List ℕ
  pub split : AreFrames rest (frame ∷ []) behind
  pub ends : step most d frame ≡ Err error

-- what stands here is the cause of the error
abbrev pub IsCause : ℕ → Course → List ℕ → ShipError → Type 0
IsCause most d rest (BadFrame at) = (at ≡ d.at) × IsBad rest
IsCause most d rest (Gap found next) = IsEndOf most d rest (Gap found next)
IsCause most d rest (TooLarge total) = IsEndOf most d rest (TooLarge total)
IsCause most d rest _ = ⊥

-- the course ends with an error: what stands behind the frames that were taken up to here is bad, or the next frame says so
pub record IsStopped (most : ℕ) (c d : Course) (bytes : List ℕ) (error : ShipError) : Type 0 where
  pub frames : List Frame
  pub rest : List ℕ
  pub split : AreFrames bytes frames rest
  pub ends : course most c frames ≡ Ok d
  pub cause : IsCause most d rest error
