-- What the calls of a host in memory leave, by going through their list again.
use Rattle.std.specs.Prelude.{◌≡◌, ◌<◌, ◌≤◌, ℕ, List, [], ◌∷◌, ◌++◌, length, take}
use Rattle.ode_host.specs.declared.call.Call.{Call}
use Rattle.ode_host.specs.declared.call.Call.TheVariants.{Write, Sync, Begin, End}
use Rattle.ode_host.specs.Disk.{Disk, settled, written_on, MayHold}
use Rattle.ode_host.specs.Host.{Step}

-- the disk, what was printed, and the piece that is being printed
pub record HostState : Type 0 where
  pub disk : Disk
  pub text : List ℕ
  pub printing : List ℕ

abbrev pub step : HostState → Call → HostState
step s (Write at bytes) = record s { disk = written_on s.disk at bytes.items }
step s Sync = record s { disk = settled s.disk.image }
step s (Begin piece) = record s { printing = piece.items }
step s End = record s { text = s.text ++ s.printing; printing = [] }

-- after these calls, the first of them first
abbrev pub after : List Call → HostState → HostState
after [] s = s
after (call ∷ calls) s = after calls (step s call)

-- before any call
abbrev pub first : List ℕ → HostState
first start = record { disk = settled start; text = []; printing = [] }

-- the disk after these calls
abbrev pub disk_after : List ℕ → List Call → Disk
disk_after start calls = (after calls (first start)).disk

-- what a stop may leave in a state
pub record Leaves (s : HostState) (image out : List ℕ) : Type 0 where
  pub disk : MayHold s.disk.synced s.disk.pending image
  pub printed : (n : ℕ) × (out ≡ s.text ++ take n s.printing)

-- what a stop after t of these calls may leave
pub record LeftAt (start : List ℕ) (calls : List Call) (t : ℕ) (image out : List ℕ) : Type 0 where
  pub reached : t ≤ length calls
  pub leaves : Leaves (after (take t calls) (first start)) image out

-- the calls lead to this image and this text, with no print left open
pub record IsTape (start image text : List ℕ) (calls : List Call) : Type 0 where
  pub reads : image ≡ (after calls (first start)).disk.image
  pub prints : text ≡ (after calls (first start)).text
  pub rests : (after calls (first start)).printing ≡ []

-- Of some calls more were made: earlier moments stay, and later ones come of the last of them by a step.
pub record Passes (st : Step) (start : List ℕ) (old new : List Call) : Type 0 where
  pub later : length old ≤ length new
  pub keeps : (t : ℕ) (c o : List ℕ) → t ≤ length old → LeftAt start new t c o → LeftAt start old t c o
  pub stays : (t : ℕ) (c o : List ℕ) → t ≤ length old → LeftAt start old t c o → LeftAt start new t c o
  pub steps : (t : ℕ) (c o : List ℕ) → length old < t → t ≤ length new → LeftAt start new t c o → (d : List ℕ) × (e : List ℕ) × LeftAt start old (length old) d e × st d e c o
