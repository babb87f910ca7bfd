-- What following a whole stream comes to.
use Rattle.std.specs.Prelude.{◌≡◌, ◌<◌, ◌≤◌, ℕ, List, [], length, take, Option, Some}
use Rattle.ode_keep.specs.Entries.{Entries}
use Rattle.ode_standby.specs.Courses.{Course, IsTaken}
use Rattle.ode_standby.specs.Taking.{Stops, TookSome}
use Rattle.ode_standby.specs.declared.error.ShipError.TheVariants as error
use Rattle.ode_standby.specs.declared.following.Followed.{Followed}
use Rattle.ode_standby.specs.declared.following.Followed.TheVariants.{Ended, Long, ReadFault, Stopped}
use Rattle.ode_value.specs.Limits.{script_limit}

-- The stream was read to its end: all whole frames of it were taken, and what is left begins one.
pub record TookWhole (most : ℕ) (c : Course) (bytes : List ℕ) (Holds : Entries → Type 0) (left : Option (List ℕ)) (applied skipped rest : ℕ) : Type 0 where
  pub reached : Course
  pub begun : List ℕ
  pub is : IsTaken most c reached bytes begun
  pub applied_is : applied ≡ reached.applied
  pub skipped_is : skipped ≡ reached.skipped
  pub rest_is : rest ≡ length begun
  pub holds : Holds reached.entries
  pub short : length bytes ≤ script_limit
  pub nothing : left ≡ Some []

-- It is too long: the frames that are whole before its first byte too many were taken.
pub record TookLong (most : ℕ) (c : Course) (bytes : List ℕ) (Holds : Entries → Type 0) : Type 0 where
  pub reached : Course
  pub begun : List ℕ
  pub is : IsTaken most c reached (take script_limit bytes) begun
  pub holds : Holds reached.entries
  pub long : script_limit < length bytes

-- by what it came to; want of memory and faults may come in between
abbrev pub Follows : ℕ → Course → List ℕ → (Entries → Type 0) → Option (List ℕ) → Followed → Type 0
Follows most c bytes Holds left (Ended applied skipped rest) = TookWhole most c bytes Holds left applied skipped rest
Follows most c bytes Holds left Long = TookLong most c bytes Holds
Follows most c bytes Holds left ReadFault = TookSome most c bytes Holds
Follows most c bytes Holds left (Stopped error.Memory) = TookSome most c bytes Holds
Follows most c bytes Holds left (Stopped error.DiskFault) = Unit {0}
Follows most c bytes Holds left (Stopped (error.Damaged key)) = ⊥
Follows most c bytes Holds left (Stopped (error.BadFrame at)) = Stops most c (take script_limit bytes) Holds (error.BadFrame at)
Follows most c bytes Holds left (Stopped (error.Gap found next)) = Stops most c (take script_limit bytes) Holds (error.Gap found next)
Follows most c bytes Holds left (Stopped (error.TooLarge total)) = Stops most c (take script_limit bytes) Holds (error.TooLarge total)

-- the disk failed, or a read
abbrev pub IsDiskFault : Followed → Type 0
IsDiskFault followed = followed ≡ Stopped error.DiskFault

abbrev pub IsReadFault : Followed → Type 0
IsReadFault followed = followed ≡ ReadFault
