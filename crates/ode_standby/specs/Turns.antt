-- Following a stream, one turn after the other: a read, and the feeding of what it gave.
use Rattle.std.specs.Prelude.{◌≡◌, ◌<◌, ◌≤◌, ◌+◌, ◌++◌, ℕ, List, [], true, false, length, take, Option, Some, Result, Ok, Err}
use Rattle.ode_keep.specs.Entries.{Entries}
use Rattle.ode_standby.specs.Courses.{Course, IsTaken, next_of}
use Rattle.ode_standby.specs.Following.{Follows}
use Rattle.ode_standby.specs.declared.error.ShipError.TheVariants as error
use Rattle.ode_standby.specs.declared.following.Chunk.{Chunk}
use Rattle.ode_standby.specs.declared.following.Chunk.TheVariants.{Bytes, End, Failed}
use Rattle.ode_standby.specs.declared.following.Followed.{Followed}
use Rattle.ode_standby.specs.declared.following.Followed.TheVariants.{Stopped}
use Rattle.ode_standby.specs.declared.stream.Stream.{Stream}
use Rattle.ode_value.specs.declared.limits.TheConstants.{SCRIPT_LIMIT}

-- ---- a read

-- these bytes came of what was left
pub record Came (left : List ℕ) (now : Option (List ℕ)) (bytes : List ℕ) : Type 0 where
  pub rest : List ℕ
  pub split : left ≡ bytes ++ rest
  pub told : now ≡ Some rest

-- these came, and more that a stream may not have
pub record CameLong (left bytes : List ℕ) : Type 0 where
  pub rest : List ℕ
  pub split : left ≡ bytes ++ rest
  pub more : 0 < length rest

-- what a read gave of what was left, in a chunk
abbrev pub Gives : List ℕ → Option (List ℕ) → List ℕ → Chunk → Type 0
Gives left now chunk End = (left ≡ []) × (now ≡ Some [])
Gives left now chunk Failed = Unit {0}
Gives left now chunk (Bytes count false) = Came left now (take count chunk)
Gives left now chunk (Bytes count true) = CameLong left (take count chunk)

-- they are in the chunk, and a stream of which so many came may have them
abbrev pub IsWithin : ℕ → List ℕ → Chunk → Type 0
IsWithin taken chunk (Bytes count is_long) = (count ≤ length chunk) × (taken + count ≤ SCRIPT_LIMIT)
IsWithin taken chunk _ = Unit {0}

-- there are some, or with them it has as many as it may
abbrev pub GoesFurther : ℕ → Chunk → Type 0
GoesFurther taken (Bytes count false) = 0 < count
GoesFurther taken (Bytes count true) = taken + count ≡ SCRIPT_LIMIT
GoesFurther taken _ = Unit {0}

-- ---- a turn

-- Of a stream some bytes came, and all whole frames of these were taken.
pub record IsFed (most : ℕ) (c : Course) (bytes : List ℕ) (left : Option (List ℕ)) (stream : Stream) (applied : ℕ) (Holds : Entries → Type 0) : Type 0 where
  pub came : List ℕ
  pub more : List ℕ
  pub split : bytes ≡ came ++ more
  pub told : left ≡ Some more
  pub reached : Course
  pub is : IsTaken most c reached came stream.begun.items
  pub start : stream.start ≡ reached.at
  pub skipped : stream.skipped ≡ reached.skipped
  pub applied_is : applied ≡ reached.applied
  pub many : length came ≡ stream.start + length stream.begun.items
  pub next : next_of reached.entries ≡ Some reached.next
  pub holds : Holds reached.entries

-- More bytes came, or following is over.
abbrev pub Goes : ℕ → Course → List ℕ → Option (List ℕ) → Stream → (Entries → Type 0) → Result ℕ Followed → Type 0
Goes most c bytes left stream Holds (Ok applied) = IsFed most c bytes left stream applied Holds
Goes most c bytes left stream Holds (Err followed) = Follows most c bytes Holds left followed

-- records that tell a number are held
pub record HoldsNext (Holds : Entries → Type 0) : Type 0 where
  pub entries : Entries
  pub next : ℕ
  pub told : next_of entries ≡ Some next
  pub holds : Holds entries

-- they are held still, or following is over, and no record is damaged
abbrev pub StaysSound : (Entries → Type 0) → Result ℕ Followed → Type 0
StaysSound Holds (Ok applied) = HoldsNext Holds
StaysSound Holds (Err (Stopped (error.Damaged key))) = ⊥
StaysSound Holds (Err _) = Unit {0}
