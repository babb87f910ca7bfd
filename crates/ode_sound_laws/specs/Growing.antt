-- Worlds that follow one another: no object changes its class, no field is added, and no number falls.
use Rattle.std.specs.Prelude.{◌≡◌, ◌<◌, ◌≤◌, ℕ, Some}
use Rattle.ode_value.specs.Denoting.{object_numbered}
use Rattle.ode_value.specs.Worlds.{Object, Bones}

-- an object was there, of the same class
pub record WasThere (b : Bones) (id : ℕ) (o : Object) : Type 0 where
  pub before : Object
  pub found : object_numbered id b.objects ≡ Some before
  pub class : o.class ≡ before.class
  pub last : before.last ≤ o.last

-- bones behind others: what has an earlier number was there
pub record Follows (b c : Bones) : Type 0 where
  pub classes : c.classes ≡ b.classes
  pub added : c.added ≡ b.added
  pub next : b.next ≤ c.next
  pub objects : (id : ℕ) → id < b.next → (o : Object) → object_numbered id c.objects ≡ Some o → WasThere b id o

-- an object is there, of the same class
pub record StillThere (c : Bones) (id : ℕ) (o : Object) : Type 0 where
  pub after : Object
  pub found : object_numbered id c.objects ≡ Some after
  pub class : after.class ≡ o.class
  pub last : o.last ≤ after.last

-- bones behind others of the same transaction
pub record Grows (b c : Bones) : Type 0 where
  pub follows : Follows b c
  pub stays : (id : ℕ) (o : Object) → object_numbered id b.objects ≡ Some o → StillThere c id o
