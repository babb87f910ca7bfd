-- Counters, queue and last versions in their ranges.
use Rattle.std.specs.Prelude.{◌≡◌, ◌<◌, ◌≤◌, ◌+◌, ◌^◌, ℕ, length, map}
use Rattle.std.specs.List.{AllByRecursion}
use Rattle.ode_value.specs.Acts.{Outcome, Done, Aborted}
use Rattle.ode_value.specs.GoodWorlds.{RiseFrom, IsNext}
use Rattle.ode_value.specs.Limits.{number_limit, queue_limit, generation_limit}
use Rattle.ode_value.specs.Posting.{waiting}
use Rattle.ode_value.specs.Transactions.{Tx, Collected}
use Rattle.ode_value.specs.Worlds.{Entry, Object, Bones}

-- an entry belongs to a generation of a waiting firing
abbrev pub IsWaiting : Entry → Type 0
IsWaiting e = (1 ≤ e.generation) × (e.generation ≤ generation_limit)

-- an entry of the queue: its number was drawn
abbrev pub IsQueued : ℕ → ℕ × Entry → Type 0
IsQueued next q = (q.0 < next) × IsWaiting q.1

-- an object's last version's number fits its place
abbrev pub HasLast : Object → Type 0
HasLast o = o.last < 2 ^ 32

-- the next number and the next entry's lie in their ranges; few entries wait, by rising numbers; last versions' numbers fit
pub record AreCounted (b : Bones) : Type 0 where
  pub next : IsNext number_limit b.next
  pub next_entry : IsNext number_limit b.next_entry
  pub few : length b.queue ≤ queue_limit
  pub rising : RiseFrom 0 (map (λ (q : ℕ × Entry). q.0) b.queue)
  pub queue : AllByRecursion (IsQueued b.next_entry) b.queue
  pub lasts : AllByRecursion HasLast b.objects

-- a transaction whose first world is so, and that has room for what it collected
pub record CountsOn {O A : Type 0} (x : Tx O A) : Type 0 where
  pub first : AreCounted x.first.bones
  pub next : IsNext number_limit x.now.bones.next
  pub lasts : AllByRecursion HasLast x.now.bones.objects
  pub room : length (waiting x.origin x.first.bones.queue) + length x.collected ≤ queue_limit
  pub numbers : x.first.bones.next_entry + length x.collected ≤ number_limit
  pub collected : AllByRecursion (λ (c : Collected). IsWaiting c.entry) x.collected

-- what an act reached
abbrev pub StaysCounted : {O A R : Type 0} → Outcome O A R → Type 0
StaysCounted (Done answer x) = CountsOn x
StaysCounted (Aborted reason x) = CountsOn x
