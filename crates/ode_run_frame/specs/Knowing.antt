-- What is known of a frame over a heap and an overlay.
use Rattle.std.specs.Prelude.{◌≡◌, ℕ, List, Bool, true, Option, Some}
use Rattle.ode_host.specs.Causes.{RoseIf}
use Rattle.ode_host.specs.Host.{Looks}
use Rattle.ode_host.specs.View.{View}
use Rattle.ode_keep.specs.Entries.{Entries}
use Rattle.ode_overlay.specs.Layers.{Layer}
use Rattle.ode_run_frame.specs.Reads.{Reads}
use Rattle.ode_run_frame.specs.declared.unread.Unread.{Unread}
use Rattle.ode_run_frame.specs.declared.unread.Unread.TheVariants.{Damaged, DiskFault}
use Rattle.ode_value.specs.Worlds.{Bones}
use Rattle.ode_value.specs.declared.class.Class.{Class}

-- the names of the heap, the host and the list of looks that are lent, the host as it began, the records, and the bones that are read
pub record Known (H : Type 0) : Type 0 where
  pub heap : ℕ
  pub host : ℕ
  pub looked : ℕ
  pub began : H
  pub entries : Entries
  pub bones : Bones

-- a keeper that may be used holds these records
pub record Keeps (holds : Entries → Type 0) (live : Bool) (entries : Entries) : Type 0 where
  pub usable : live ≡ true
  pub records : holds entries

-- until the disk fails
abbrev pub Until : Option Unread → Type 0 → Type 0
Until (Some DiskFault) P = Unit {0}
Until _ P = P

-- no record is damaged
abbrev pub IsSound : Option Unread → Type 0
IsSound (Some (Damaged key)) = ⊥
IsSound _ = Unit {0}

-- The host only looked, and no record is damaged; the disk failed exactly where that stopped it, and till then the keeper holds the records.
pub record Behind (before after : View) (holds : Entries → Type 0) (live : Bool) (stopped : Option Unread) (entries : Entries) : Type 0 where
  pub sound : IsSound stopped
  pub looks : Looks before after
  pub faults : RoseIf (stopped ≡ Some DiskFault) before.disk_faults after.disk_faults
  pub keeps : Until stopped (Keeps holds live entries)

-- the frame still has the heap, the host and the list that it was lent
pub record Shown {H : Type 0} (seen : H → View) (holds : Entries → Type 0) (live : Bool) (heap_name host_name looked_name : ℕ) (now : H) (stopped : Option Unread) (classes : List Class) (x : Layer) (k : Known H) : Type 0 where
  pub heap : heap_name ≡ k.heap
  pub host : host_name ≡ k.host
  pub looked : looked_name ≡ k.looked
  pub behind : Behind (seen k.began) (seen now) holds live stopped k.entries
  pub reads : Reads classes k.entries x k.bones

-- ---- where no records are known

-- the names of the heap, the host and the list of looks that are lent, and the host as it began
pub record Base (H : Type 0) : Type 0 where
  pub heap : ℕ
  pub host : ℕ
  pub looked : ℕ
  pub began : H

-- The host only looked; the disk failed exactly where that stopped it, and till then the keeper may be used.
pub record Since (before after : View) (live : Bool) (stopped : Option Unread) : Type 0 where
  pub looks : Looks before after
  pub faults : RoseIf (stopped ≡ Some DiskFault) before.disk_faults after.disk_faults
  pub usable : Until stopped (live ≡ true)

-- the frame still has the heap, the host and the list that it was lent
pub record Follows {H : Type 0} (seen : H → View) (live : Bool) (heap_name host_name looked_name : ℕ) (now : H) (stopped : Option Unread) (b : Base H) : Type 0 where
  pub heap : heap_name ≡ b.heap
  pub host : host_name ≡ b.host
  pub looked : looked_name ≡ b.looked
  pub since : Since (seen b.began) (seen now) live stopped
