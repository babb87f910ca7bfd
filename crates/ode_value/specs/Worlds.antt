-- A world: what is plain to see of it, its bones, and what is kept of the pasts of its objects.
use Rattle.std.specs.Prelude.{ℕ, ℤ, List, [], ◌∷◌, Bool, cond, ◌==◌, Option, Some, None}
use Rattle.std.specs.Str.{bytes_eq}
use Rattle.ode_value.specs.declared.change.Added.{Added}
use Rattle.ode_value.specs.declared.class.Class.{Class}
use Rattle.ode_value.specs.declared.statement.ClassDecl.{ClassDecl}
use Rattle.ode_value.specs.declared.value.Value.{Value}
use Rattle.ode_value.specs.Objects.{Activation}
use Rattle.ode_value.specs.Pasts.{Kept}
use Rattle.ode_value.specs.Versions.{Version}

-- a declared class: as it was checked, with the fields that were added to it, and as it was written
pub record Declared : Type 0 where
  pub class : Class
  pub tree : ClassDecl

-- an object: its versions and its activations, whose numbers rise, and the last number that a version of it ever had
pub record Object : Type 0 where
  pub id : ℕ
  pub class : ℕ
  pub live : Bool
  pub last : ℕ
  pub versions : List Version
  pub activations : List Activation

-- a firing that waits to run as a transaction of its own
pub record Entry : Type 0 where
  pub object : ℕ
  pub class : ℕ
  pub trigger : ℕ
  pub generation : ℕ
  pub args : List Value

-- how far the clock has come: an instant, and within it an object and a place in its class's list of kinds
pub record Position : Type 0 where
  pub instant : ℤ
  pub object : ℕ
  pub place : ℕ

-- The classes and the objects, each in rising order of numbers; the fields that were added to classes, in the order of their births;
-- the next number of an object or an activation, the next transaction's number; the queue of firings by number and the next number
-- there; the clock.
pub record Bones : Type 0 where
  pub classes : List Declared
  pub added : List Added
  pub objects : List Object
  pub next : ℕ
  pub transaction : ℕ
  pub queue : List (ℕ × Entry)
  pub next_entry : ℕ
  pub clock : Option Position

-- beside the bones, what is kept of each object's past: O of its own, and A of each activation
pub record World (O A : Type 0) : Type 0 where
  pub bones : Bones
  pub pasts : List (ℕ × Kept O A)

-- the bones of a fresh database
abbrev pub empty_bones : Bones
empty_bones = record { classes = []; added = []; objects = []; next = 1; transaction = 1; queue = []; next_entry = 1; clock = None }

-- a fresh database
abbrev pub empty_world : {O A : Type 0} → World O A
empty_world = record { bones = empty_bones; pasts = [] }

-- the class of this name
abbrev pub class_named : List ℕ → List Declared → Option Class
class_named name [] = None
class_named name (c ∷ cs) = cond (bytes_eq c.class.name name) (Some c.class) (class_named name cs)

-- the class of this number
abbrev pub class_numbered : ℕ → List Declared → Option Class
class_numbered number [] = None
class_numbered number (c ∷ cs) = cond (c.class.number == number) (Some c.class) (class_numbered number cs)

-- with this change of the object of a number
abbrev pub with_object : ℕ → (Object → Object) → List Object → List Object
with_object id change [] = []
with_object id change (o ∷ os) = cond (o.id == id) (change o ∷ os) (o ∷ with_object id change os)

-- what is kept by a number
abbrev pub kept_at : {K : Type 0} → ℕ → List (ℕ × K) → Option K
kept_at id [] = None
kept_at id (row ∷ rows) = cond (row.0 == id) (Some row.1) (kept_at id rows)

-- with this change of what is kept by a number
abbrev pub with_kept : {K : Type 0} → ℕ → (K → K) → List (ℕ × K) → List (ℕ × K)
with_kept id change [] = []
with_kept id change (row ∷ rows) = cond (row.0 == id) ((row.0, change row.1) ∷ rows) (row ∷ with_kept id change rows)
