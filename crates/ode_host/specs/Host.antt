-- What the calls of a host do to its disk and to what is printed, and what a stop may leave of both.
use Rattle.std.specs.Prelude.{◌≡◌, ◌<◌, ℕ, ◌+◌, ◌-◌, ◌≤◌, max, min, List, ◌++◌, length, take, drop, replicate, IsTrue, Some, IsSome}
use Rattle.ode_host.specs.Causes.{RoseIf}
use Rattle.ode_host.specs.View.{View}

-- old with these bytes at this offset, and zeros between its end and the offset
abbrev pub written_over : List ℕ → ℕ → List ℕ → List ℕ
written_over old at bytes = take at old ++ replicate (at - length old) 0 ++ bytes ++ drop (at + length bytes) old

-- after a write of n bytes that a stop cuts short: any bytes in the range and past the old end, the same elsewhere
pub record Torn (at n : ℕ) (old new : List ℕ) : Type 0 where
  pub before : take (min at (length old)) new ≡ take at old
  pub after : drop (at + n) new ≡ drop (at + n) old
  pub no_shorter : length old ≤ length new
  pub no_longer : length new ≤ max (length old) (at + n)

-- whether a pair may come of another: the image, the text, and what they become
abbrev pub Step : Type 1
Step = List ℕ → List ℕ → List ℕ → List ℕ → Type 0

abbrev pub Nothing : Step
Nothing image out image' out' = (image' ≡ image) × (out' ≡ out)

abbrev pub TornWrite : ℕ → ℕ → Step
TornWrite at n image out image' out' = Torn at n image image' × (out' ≡ out)

abbrev pub CutPrint : List ℕ → Step
CutPrint piece image out image' out' = (image' ≡ image) × (n : ℕ) × (out' ≡ out ++ take n piece)

-- Time goes on: earlier moments stay what they were, and a stop at a new one leaves what a step makes of a pair that
-- the last of them leaves.
pub record Elapses (step : Step) (old new : View) : Type 0 where
  pub later : old.moment ≤ new.moment
  pub keeps : (t : ℕ) (c o : List ℕ) → t ≤ old.moment → new.left t c o → old.left t c o
  pub stays : (t : ℕ) (c o : List ℕ) → t ≤ old.moment → old.left t c o → new.left t c o
  pub steps : (t : ℕ) (c o : List ℕ) → old.moment < t → t ≤ new.moment → new.left t c o → (d : List ℕ) × (e : List ℕ) × old.left old.moment d e × step d e c o

-- what every call keeps
pub record Keeps (old new : View) : Type 0 where
  pub honest : new.honest ≡ old.honest
  pub told : IsSome old.image → IsSome new.image
  pub printed : IsSome old.text → IsSome new.text
  pub disk_faults : old.disk_faults ≤ new.disk_faults
  pub print_faults : old.print_faults ≤ new.print_faults

-- a call that neither writes nor prints
pub record Looks (old new : View) : Type 0 where
  pub keeps : Keeps old new
  pub image : new.image ≡ old.image
  pub text : new.text ≡ old.text
  pub time : Elapses Nothing old new
  pub written : IsSome old.image → new.written ≡ old.written
  pub print_faults : new.print_faults ≡ old.print_faults

-- the host is honest, and its disk reads as this
pub record Tells (view : View) (file : List ℕ) : Type 0 where
  pub honest : IsTrue view.honest
  pub image : view.image ≡ Some file

-- a stop now leaves this on the disk and nothing else
abbrev pub Only : List ℕ → View → Type 0
Only file view = (c o : List ℕ) → view.left view.moment c o → c ≡ file

-- a read that answers n gave the bytes at this offset, and none only where there are none
pub record Gives (old : View) (at : ℕ) (to : List ℕ) (n : ℕ) : Type 0 where
  pub bytes : (file : List ℕ) → Tells old file → take n to ≡ take n (drop at file)
  pub some : (file : List ℕ) → Tells old file → 0 < length to → at < length file → 0 < n

-- a write at this offset, whole or torn
pub record Writes (at : ℕ) (bytes : List ℕ) (old new : View) : Type 0 where
  pub keeps : Keeps old new
  pub text : new.text ≡ old.text
  pub time : Elapses (TornWrite at (length bytes)) old new
  pub written : IsSome old.image → new.written ≡ old.written + length bytes
  pub fetched : IsSome old.image → new.fetched ≡ old.fetched
  pub print_faults : new.print_faults ≡ old.print_faults

-- the disk reads as it was with these bytes at this offset
abbrev pub Wrote : ℕ → List ℕ → View → View → Type 0
Wrote at bytes old new = (file : List ℕ) → Tells old file → new.image ≡ Some (written_over file at bytes)

-- the disk reads as a write that was cut short may leave it
abbrev pub MayHaveWritten : ℕ → ℕ → View → View → Type 0
MayHaveWritten at n old new = (file : List ℕ) → Tells old file → (torn : List ℕ) × (new.image ≡ Some torn) × Torn at n file torn

-- a print of this piece, whole or cut short
pub record Prints (piece : List ℕ) (old new : View) : Type 0 where
  pub keeps : Keeps old new
  pub image : new.image ≡ old.image
  pub time : Elapses (CutPrint piece) old new
  pub written : IsSome old.image → new.written ≡ old.written
  pub fetched : IsSome old.image → new.fetched ≡ old.fetched
  pub disk_faults : new.disk_faults ≡ old.disk_faults

abbrev pub Printed : List ℕ → View → View → Type 0
Printed piece old new = (text : List ℕ) → old.text ≡ Some text → new.text ≡ Some (text ++ piece)

abbrev pub MayHavePrinted : List ℕ → View → View → Type 0
MayHavePrinted piece old new = (text : List ℕ) → old.text ≡ Some text → (n : ℕ) × (new.text ≡ Some (text ++ take n piece))

-- A stop at any moment after old and up to new leaves a pair that has P, and earlier moments stay what they were.
pub record LeavesOnly (old new : View) (P : List ℕ → List ℕ → Type 0) : Type 0 where
  pub later : old.moment ≤ new.moment
  pub keeps : (t : ℕ) (c o : List ℕ) → t ≤ old.moment → new.left t c o → old.left t c o
  pub each : (t : ℕ) (c o : List ℕ) → old.moment < t → t ≤ new.moment → new.left t c o → P c o

-- the host is honest, its disk reads as this, and a stop now leaves that
pub record Stands (file : List ℕ) (view : View) : Type 0 where
  pub tells : Tells view file
  pub only : Only file view

-- what some writes and syncs keep, and by how much the bytes written grew
pub record Puts (by : ℕ) (old new : View) : Type 0 where
  pub keeps : Keeps old new
  pub text : new.text ≡ old.text
  pub written : IsSome old.image → new.written ≡ old.written + by
  pub fetched : IsSome old.image → new.fetched ≡ old.fetched
  pub print_faults : new.print_faults ≡ old.print_faults

-- What calls of the disk leave, whatever they answer: the text and the count of failed prints are as they were, and the
-- disk's count rose where the answer says so, and only there.
pub record DiskCalls (failed : Type 0) (old new : View) : Type 0 where
  pub keeps : Keeps old new
  pub text : new.text ≡ old.text
  pub print_faults : new.print_faults ≡ old.print_faults
  pub disk_faults : RoseIf failed old.disk_faults new.disk_faults

-- What calls of a host leave, whatever they answer: each count of faults rose where the answer says so, and only there.
pub record HostCalls (disk_failed print_failed : Type 0) (old new : View) : Type 0 where
  pub keeps : Keeps old new
  pub disk_faults : RoseIf disk_failed old.disk_faults new.disk_faults
  pub print_faults : RoseIf print_failed old.print_faults new.print_faults

-- Nothing was written, and a stop at any moment leaves an image that it might have left at the start.
pub record Spares (old new : View) : Type 0 where
  pub later : old.moment ≤ new.moment
  pub image : new.image ≡ old.image
  pub written : IsSome old.image → new.written ≡ old.written
  pub stops : (t : ℕ) (c o : List ℕ) → t ≤ new.moment → new.left t c o → (e : List ℕ) × old.left (min t old.moment) c e

-- some reads gave this many bytes
abbrev pub Fetched : ℕ → View → View → Type 0
Fetched n old new = IsSome old.image → new.fetched ≡ old.fetched + n

-- some reads gave at most this many bytes
abbrev pub FetchedAtMost : ℕ → View → View → Type 0
FetchedAtMost n old new = IsSome old.image → (old.fetched ≤ new.fetched) × (new.fetched ≤ old.fetched + n)

-- the file with a torn write of n bytes at this offset, and the text as it was
abbrev pub LeavesTorn : ℕ → ℕ → List ℕ → View → List ℕ → List ℕ → Type 0
LeavesTorn at n file old c o = Torn at n file c × (old.text ≡ Some o)

-- the file as it is, and a front of this piece printed behind the text
abbrev pub LeavesCut : List ℕ → List ℕ → List ℕ → List ℕ → List ℕ → Type 0
LeavesCut file text piece c o = (c ≡ file) × (n : ℕ) × (o ≡ text ++ take n piece)
