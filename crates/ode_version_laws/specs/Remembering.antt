-- What an overlay keeps of the world that its transaction began with.
use Rattle.std.specs.Prelude.{◌≡◌, ◌≤◌, ℕ, List, Option, Some, None}
use Rattle.std.specs.BTreeMap.{is_at}
use Rattle.std.specs.List.Sorted.{IsStrictlySortedBy}
use Rattle.std.specs.Map.{keys_of, lookup}
use Rattle.std.specs.Ordering.{nat_cmp}
use Rattle.ode_laws.specs.Alike.{NumberWorld}
use Rattle.ode_objects.specs.declared.object.Object.{Object}
use Rattle.ode_objects.specs.declared.tracked.First.{First}
use Rattle.ode_objects.specs.declared.tracked.First.TheVariants.{Same, Other, Absent}
use Rattle.ode_objects.specs.declared.tracked.Tracked.{Tracked}
use Rattle.ode_overlay_laws.specs.Standing.{IsIn}
use Rattle.ode_value.specs.Denoting.{object_numbered}
use Rattle.ode_value.specs.Worlds.{kept_at}

-- a world has no object of this number, and keeps nothing of one
pub record IsOutside (w : NumberWorld) (id : ℕ) : Type 0 where
  pub object : object_numbered id w.bones.objects ≡ None
  pub kept : kept_at id w.pasts ≡ None

-- an object was this one at first: the world has it, and the last number of a version has not fallen since
pub record WasOther (w : NumberWorld) (id : ℕ) (now o : Object) : Type 0 where
  pub is : IsIn w id o
  pub last : o.last ≤ now.last

-- what an object was is what the world has of it
abbrev pub WasFirst : NumberWorld → ℕ → Object → First → Type 0
WasFirst w id now Same = IsIn w id now
WasFirst w id now (Other o) = WasOther w id now o
WasFirst w id now Absent = IsOutside w id

-- what is known of an object that is to be changed; one that isn't tracked is made
abbrev pub IsKnown : NumberWorld → ℕ → Option Tracked → Type 0
IsKnown w id None = IsOutside w id
IsKnown w id (Some t) = WasFirst w id t.current t.first

-- the numbers of tracked objects rise, and of each it is known what it was
pub record Remembers (objects : List (ℕ × Tracked)) (w : NumberWorld) : Type 0 where
  pub rising : IsStrictlySortedBy nat_cmp (keys_of objects)
  pub first : (id : ℕ) (t : Tracked) → lookup (is_at (nat_cmp id)) objects ≡ Some t → WasFirst w id t.current t.first

-- the last number of a version of an object that is to be changed doesn't fall
abbrev pub NeverFalls : Option Tracked → Object → Type 0
NeverFalls None now = Unit {0}
NeverFalls (Some t) now = t.current.last ≤ now.last
