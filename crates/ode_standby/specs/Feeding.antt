-- What a standby answers to the next bytes of a stream.
use Rattle.std.specs.Prelude.{◌≡◌, ◌+◌, ℕ, List, [], Bool, IsTrue, Result, Ok, Err}
use Rattle.ode_keep.specs.Entries.{Entries}
use Rattle.ode_standby.specs.Courses.{Course, IsTaken}
use Rattle.ode_standby.specs.Taking.{Stops, TookSome}
use Rattle.ode_standby.specs.declared.error.ShipError.{ShipError}
use Rattle.ode_standby.specs.declared.error.ShipError.TheVariants.{Memory, BadFrame, Gap, TooLarge, DiskFault, Damaged}
use Rattle.ode_standby.specs.declared.standby.Standby.{Standby}
use Rattle.ode_standby.specs.declared.stream.Stream.{Stream}

-- no call failed, and the records may be used
pub record IsLive {K : Type 0} (live : K → Bool) (standby : Standby K) : Type 0 where
  pub sound : IsTrue standby.sound
  pub usable : IsTrue (live standby.heap)

-- all whole frames were taken; the rest waits
pub record TookFrames (most : ℕ) (c : Course) (bytes : List ℕ) (old : Stream) (Holds : Entries → Type 0) (new : Stream) (applied : ℕ) : Type 0 where
  pub reached : Course
  pub is : IsTaken most c reached bytes new.begun.items
  pub start : new.start ≡ reached.at
  pub skipped : new.skipped ≡ old.skipped + reached.skipped
  pub applied_is : applied ≡ reached.applied
  pub holds : Holds reached.entries

-- Its frames are taken up to the first that stops the standby; no record is damaged. Want of memory and a fault of the disk may come in between.
abbrev pub Feeds : ℕ → Course → List ℕ → Stream → (Entries → Type 0) → Stream → Result ℕ ShipError → Type 0
Feeds most c bytes old Holds new (Ok applied) = TookFrames most c bytes old Holds new applied
Feeds most c bytes old Holds new (Err Memory) = TookSome most c bytes Holds
Feeds most c bytes old Holds new (Err DiskFault) = Unit {0}
Feeds most c bytes old Holds new (Err (Damaged key)) = ⊥
Feeds most c bytes old Holds new (Err (BadFrame at)) = Stops most c bytes Holds (BadFrame at)
Feeds most c bytes old Holds new (Err (Gap found next)) = Stops most c bytes Holds (Gap found next)
Feeds most c bytes old Holds new (Err (TooLarge total)) = Stops most c bytes Holds (TooLarge total)

-- nothing came
pub record IsFresh (stream : Stream) : Type 0 where
  pub start : stream.start ≡ 0
  pub skipped : stream.skipped ≡ 0
  pub begun : stream.begun.items ≡ []
