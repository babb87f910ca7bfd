-- What a standby makes of the frames that its primary shipped.
use Rattle.std.specs.Prelude.{◌≡◌, ◌<◌, ◌≤◌, ℕ, zero, suc, List, [], ◌∷◌, ◌++◌, length, take, drop, max, Some}
use Rattle.std.specs.List.{flat_map}
use Rattle.ode_host.specs.View.{View}
use Rattle.ode_keep.specs.Entries.{Entries, applied, record_bytes}
use Rattle.ode_ship.specs.Frames.{Frame, IsFrame, frame_bytes}
use Rattle.ode_standby.specs.Courses.{Course, IsStopped, IsTaken, next_of}
use Rattle.ode_standby.specs.Taking.{LeavesSome}
use Rattle.ode_standby.specs.declared.error.ShipError.{ShipError}

-- ---- the primary

-- From these records a primary shipped these frames: each of the form, of the next transaction, and the records after it fit its keeper.
abbrev pub ShippedFrom : ℕ → Entries → List Frame → Type 0
ShippedFrom most entries [] = Unit {0}
ShippedFrom most entries (f ∷ fs) =
    IsFrame f × (next_of entries ≡ Some f.0) × (record_bytes (applied f.1 entries) ≤ most) × ShippedFrom most (applied f.1 entries) fs

-- its records after so many of them
abbrev pub after_first : ℕ → Entries → List Frame → Entries
after_first zero entries fs = entries
after_first (suc j) entries [] = entries
after_first (suc j) entries (f ∷ fs) = after_first j (applied f.1 entries) fs

-- ---- the stream

-- the frames at these places, counted from 0
abbrev pub frames_at : List Frame → List ℕ → List Frame
frames_at fs places = flat_map (λ i. take 1 (drop i fs)) places

-- how many frames a standby has that had so many, behind those at these places
abbrev pub reach : ℕ → List ℕ → ℕ
reach j [] = j
reach j (i ∷ is) = reach (max j (suc i)) is

-- The places go on from so many frames: each is that of a frame, and no frame is left out before it; earlier ones may come again.
abbrev pub GoOn : List Frame → ℕ → List ℕ → Type 0
GoOn fs j [] = Unit {0}
GoOn fs j (i ∷ is) = (i < length fs) × (i ≤ j) × GoOn fs (max j (suc i)) is

-- The bytes are a front of the frames at these places.
pub record IsFront (fs : List Frame) (places bytes : List ℕ) : Type 0 where
  pub more : List ℕ
  pub split : flat_map frame_bytes (frames_at fs places) ≡ bytes ++ more

-- ---- the standby

-- A standby is where its primary was after so many frames.
pub record IsBehind (fs : List Frame) (entries : Entries) (j : ℕ) (c : Course) : Type 0 where
  pub within : j ≤ length fs
  pub records : c.entries ≡ after_first j entries fs
  pub next : next_of c.entries ≡ Some c.next

-- the bytes are fewer than the first of these frames has, and none where there is no frame
abbrev pub AreFewer : List ℕ → List Frame → Type 0
AreFewer bytes [] = bytes ≡ []
AreFewer bytes (f ∷ fs) = length bytes < length (frame_bytes f)

-- Of the frames at these places the first ones are whole in the bytes, and behind them begins the next one. The standby is behind the whole
-- ones.
pub record CameTo (fs : List Frame) (entries : Entries) (j : ℕ) (places bytes rest : List ℕ) (d : Course) : Type 0 where
  pub whole : List ℕ
  pub others : List ℕ
  pub split : places ≡ whole ++ others
  pub spelled : bytes ≡ flat_map frame_bytes (frames_at fs whole) ++ rest
  pub begun : AreFewer rest (frames_at fs others)
  pub behind : IsBehind fs entries (reach j whole) d

-- Of a front of shipped frames that go on from where it is, a standby takes all that are whole, and comes to where its primary was behind
-- the last of them.
abbrev pub TakesShipped : Type 0
TakesShipped = (most j : ℕ) (entries : Entries) (fs : List Frame) (places bytes rest : List ℕ) (c d : Course)
    → ShippedFrom most entries fs → IsBehind fs entries j c → GoOn fs j places → IsFront fs places bytes
    → IsTaken most c d bytes rest → CameTo fs entries j places bytes rest d

-- and nothing in it stops the standby
abbrev pub NothingStops : Type 0
NothingStops = (most j : ℕ) (entries : Entries) (fs : List Frame) (places bytes : List ℕ) (c d : Course) (error : ShipError)
    → ShippedFrom most entries fs → IsBehind fs entries j c → GoOn fs j places → IsFront fs places bytes
    → IsStopped most c d bytes error → ⊥

-- A file stands for the records of the primary after some of the frames, no fewer than the standby had.
pub record IsSome (means : List ℕ → Entries → Type 0) (fs : List Frame) (entries : Entries) (j : ℕ) (image : List ℕ) : Type 0 where
  pub k : ℕ
  pub from : j ≤ k
  pub within : k ≤ length fs
  pub whole : means image (after_first k entries fs)

-- that is what a stop leaves
abbrev pub StopsLeaveSome : (List ℕ → Entries → Type 0) → View → Type 0
StopsLeaveSome means old = (most j : ℕ) (entries : Entries) (fs : List Frame) (places bytes : List ℕ) (c : Course) (image out : List ℕ)
    → ShippedFrom most entries fs → IsBehind fs entries j c → GoOn fs j places → IsFront fs places bytes
    → LeavesSome means most c bytes old image out → IsSome means fs entries j image
