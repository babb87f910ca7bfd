-- What a change asks for, and leaves, so that the keys that are held are those of all records that differ.
use Rattle.std.specs.Prelude.{◌≡◌, ℕ, List, Option, Some, None, Ok, Err}
use Rattle.ode_keep.specs.Entries.{Entries, value_under}
use Rattle.ode_objects.specs.declared.tracked.Tracked.{Tracked}
use Rattle.ode_overlay.specs.Answers.{Answer}
use Rattle.ode_overlay.specs.Layers.{Layer}
use Rattle.ode_settling_laws.specs.Formed.{HasNewest, IsFormed, IsOwn, value_in}
use Rattle.ode_value.specs.Worlds.{Declared}
use Rattle.ode_value.specs.declared.key.Key.{Key}

-- what was read of an object stands under its keys, by these classes, and nothing of it was written, whatever the newest stamp is
abbrev pub IsStored : List Declared → Entries → ℕ → Option Tracked → Type 0
IsStored classes base id None = Unit {0}
IsStored classes base id (Some t) = ((q : Key) → IsOwn q → q.a ≡ id → value_under base q ≡ value_in classes q t.current) × ((stamp : ℕ) → HasNewest stamp t)

-- nothing stands under the keys of a number
abbrev pub IsUnused : Entries → ℕ → Type 0
IsUnused base id = (q : Key) → IsOwn q → q.a ≡ id → value_under base q ≡ None

-- where it is done, it leaves it so
abbrev pub StaysFormed : {R : Type 0} → List Declared → Entries → Answer (R × Layer) → Type 0
StaysFormed classes base (Ok done) = IsFormed classes base done.1
StaysFormed classes base (Err why) = Unit {0}
