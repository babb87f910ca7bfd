-- What a call of the program claims that follows a stream.
use Rattle.std.specs.Prelude.{◌≡◌, ◌⊎◌, ◌++◌, ℕ, List, [], Option, Some, take}
use Rattle.std.specs.Option.{unwrap_or}
use Rattle.ode_gate.specs.declared.places.TheConstants.{FORMAT}
use Rattle.ode_host.specs.FirstSync.{SyncedRun}
use Rattle.ode_host.specs.Host.{HostCalls, LeavesCut, LeavesOnly, Printed, Stands, Tells}
use Rattle.ode_host.specs.View.{View}
use Rattle.ode_host.specs.declared.status.Status.{Status}
use Rattle.ode_host.specs.declared.status.Status.TheVariants as status
use Rattle.ode_keep.specs.Entries.{Entries}
use Rattle.ode_keep.specs.declared.limits.TheConstants.{MAX_PAGED_BYTES}
use Rattle.ode_keeper.specs.Files.{FileMeans}
use Rattle.ode_paging.specs.Meaning.{PagesMeanIn}
use Rattle.ode_standby.specs.Courses.{Course}
use Rattle.ode_standby.specs.Following.{Follows}
use Rattle.ode_standby.specs.Taking.{LeavesSome, from}
use Rattle.ode_standby.specs.Texts.{followed_line, stopped_line}
use Rattle.ode_standby.specs.declared.error.ShipError.TheVariants as error
use Rattle.ode_standby.specs.declared.following.Followed.{Followed}
use Rattle.ode_standby.specs.declared.following.Followed.TheVariants.{Ended, Long, ReadFault, Stopped}
use Rattle.ode_value.specs.Language.{ListWorld}
use Rattle.ode_begin.specs.Claims.{Finds}
use Rattle.ode_begin.specs.Holds.{Holds}
use Rattle.ode_begin.specs.Stops.{IsCut, IsCutAt}
use Rattle.ode_ends.specs.Resting.{DiskHas}

-- ---- what following a stream came to

-- its status
abbrev pub status_of : Followed → Status
status_of (Ended applied skipped rest) = status.Ok
status_of Long = status.LongScript
status_of ReadFault = status.ReadFault
status_of (Stopped error.Memory) = status.Memory
status_of (Stopped error.DiskFault) = status.DiskFault
status_of (Stopped (error.Damaged key)) = status.BadFile
status_of (Stopped (error.BadFrame at)) = status.Refused
status_of (Stopped (error.Gap found next)) = status.Refused
status_of (Stopped (error.TooLarge total)) = status.Refused

-- what is said of it, where the stream was followed
abbrev pub said_of : Followed → List ℕ
said_of (Ended applied skipped rest) = followed_line applied skipped rest
said_of Long = []
said_of ReadFault = []
said_of (Stopped error) = unwrap_or (stopped_line error) []

-- the statuses of a stream that was followed
abbrev pub IsFollowEnding : Status → Type 0
IsFollowEnding status.Ok = Unit {0}
IsFollowEnding status.Refused = Unit {0}
IsFollowEnding status.LongScript = Unit {0}
IsFollowEnding status.DiskFault = ⊥
IsFollowEnding status.ReadFault = ⊥
IsFollowEnding status.WriteFault = ⊥
IsFollowEnding status.Memory = ⊥
IsFollowEnding status.LongStatement = ⊥
IsFollowEnding status.Usage = ⊥
IsFollowEnding status.BadFile = ⊥

-- and those that following may end with where the file holds a world
abbrev pub IsFollowStatus : Status → Type 0
IsFollowStatus status.Ok = Unit {0}
IsFollowStatus status.Refused = Unit {0}
IsFollowStatus status.LongScript = Unit {0}
IsFollowStatus status.DiskFault = Unit {0}
IsFollowStatus status.ReadFault = Unit {0}
IsFollowStatus status.WriteFault = Unit {0}
IsFollowStatus status.Memory = Unit {0}
IsFollowStatus status.LongStatement = ⊥
IsFollowStatus status.Usage = ⊥
IsFollowStatus status.BadFile = ⊥

-- What it came to is said, and gives the status. Memory for the line may be short, or its print may fail; nothing is done where following was
-- cut short.
pub record Says {H : Type 0} (seen : H → View) (followed : Followed) (old new : H) (result : Status) : Type 0 where
  pub ends : (result ≡ status_of followed) ⊎ ((result ≡ status.Memory) ⊎ (result ≡ status.WriteFault))
  pub printed : result ≡ status_of followed → IsFollowEnding result → Printed (said_of followed) (seen old) (seen new)
  pub any_moment : IsFollowEnding (status_of followed) → (file text : List ℕ) → Stands file (seen old) → (seen old).text ≡ Some text
      → LeavesOnly (seen old) (seen new) (LeavesCut file text (said_of followed))
  pub stands : (file : List ℕ) → Stands file (seen old) → Stands file (seen new)
  pub still : IsCut (status_of followed) → (result ≡ status_of followed) × (new ≡ old)
  pub leaves : HostCalls ⊥ (result ≡ status.WriteFault) (seen old) (seen new)

-- ---- the claims

-- where a standby begins whose file holds this world in these records
abbrev pub from_world : Entries → ListWorld → Course
from_world entries w = from entries w.bones.transaction 0

-- A stream was followed from there: the file stands for the records that it led to, and what it came to was said.
pub record IsFollowed (stream : List ℕ) (c : Course) (text : List ℕ) (left : Option (List ℕ)) (view : View) (result : Status) : Type 0 where
  pub followed : Followed
  pub is : Follows MAX_PAGED_BYTES c stream (λ entries. DiskHas (PagesMeanIn FORMAT) entries view) left followed
  pub stated : result ≡ status_of followed
  pub printed : view.text ≡ Some (text ++ said_of followed)

-- The image stands for the records that it led to, and a front of what it came to is said.
pub record IsSaidSoFar (stream : List ℕ) (c : Course) (old : View) (image out : List ℕ) : Type 0 where
  pub followed : Followed
  pub ending : IsFollowEnding (status_of followed)
  pub left : Option (List ℕ)
  pub is : Follows MAX_PAGED_BYTES c stream (λ entries. FileMeans image entries) left followed
  pub text : List ℕ
  pub before : old.text ≡ Some text
  pub front : ℕ
  pub printed : out ≡ text ++ take front (said_of followed)

-- It is at one of its moments: the image stands for the records after some of its frames, whole, and nothing is said yet; or it has ended.
abbrev pub IsFollowedSoFar : List ℕ → Course → View → List ℕ → List ℕ → Type 0
IsFollowedSoFar stream c old image out = LeavesSome FileMeans MAX_PAGED_BYTES c stream old image out ⊎ IsSaidSoFar stream c old image out

-- A stream is followed where the file holds a world in these records. One of the first format is migrated first, and has the same records.
pub record FollowsStream (before after : Option (List ℕ)) (old new : View) (result : Status) : Type 0 where
  -- Its frames are applied up to the first that stops the standby, whatever the chunks that it comes in.
  pub followed : (stream image text : List ℕ) (w : ListWorld) (entries : Entries) → Finds stream image text w before old → FileMeans image entries → IsFollowEnding result
      → IsFollowed stream (from_world entries w) text after new result
  -- Where the disk, the output or the stream fails or memory is short, the file holds the records after some of them, whole.
  pub cut : (stream image text : List ℕ) (w : ListWorld) (entries : Entries) → Finds stream image text w before old → FileMeans image entries → IsCut result
      → IsCutAt (IsFollowedSoFar stream (from_world entries w) old) new
  -- So does a stop at any moment from the first sync on, at which the file is as it was at the start. Before it, a stop leaves what it
  -- might have left at the start. The sync lies within the call, unless the disk failed.
  pub stops : (stream image text : List ℕ) (w : ListWorld) (entries : Entries) → Finds stream image text w before old → FileMeans image entries
      → SyncedRun old new image (result ≡ status.DiskFault) (IsFollowedSoFar stream (from_world entries w) old)
  -- It ends as the stream does, by a fault, or for want of memory.
  pub answers : (image : List ℕ) (w : ListWorld) → Tells old image → Holds image w → IsFollowStatus result
