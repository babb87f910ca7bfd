-- A transaction.
use Rattle.std.specs.Prelude.{ℕ, List, [], ◌∷◌, ◌++◌, Bool}
use Rattle.ode_value.specs.declared.key.Key.{Key}
use Rattle.ode_value.specs.declared.value.Value.{Value}
use Rattle.ode_value.specs.Footprints.{Footprint, no_footprint, with_looks, with_draw, with_queue}
use Rattle.ode_value.specs.Keys.{counters_key, entry_key}
use Rattle.ode_value.specs.Worlds.{Entry, Position, Bones, World}
use Rattle.ode_value.specs.Classes.{Trigger}

-- what a transaction comes from: a script, an entry of the queue, or the clock, which it leaves at a position
pub data Origin : Type 0 where
  Script : Origin
  Queue : (number generation : ℕ) → Origin
  Clock : (position : Position) → Origin

-- a firing: an activation of an object, its trigger and its arguments
pub record Firing : Type 0 where
  pub object : ℕ
  pub activation : ℕ
  pub trigger : Trigger
  pub args : List Value

-- a firing for the queue; one that is independent stays at an abort
pub record Collected : Type 0 where
  pub entry : Entry
  pub independent : Bool

-- The world at its start and the world now; the touched objects and the deferred firings, in order, from which nothing is taken;
-- the firings for the queue, and how many were ever collected; the text; how many statements ran; the keys of changed records; the
-- footprint.
pub record Tx (O A : Type 0) : Type 0 where
  pub origin : Origin
  pub first : World O A
  pub now : World O A
  pub touched : List ℕ
  pub deferred : List Firing
  pub collected : List Collected
  pub gathered : ℕ
  pub text : List ℕ
  pub run : ℕ
  pub keys : List Key
  pub footprint : Footprint

-- the generation that it belongs to: 0 from a script or the clock, else the entry's
abbrev pub generation_of : Origin → ℕ
generation_of Script = 0
generation_of (Queue number generation) = generation
generation_of (Clock position) = 0

-- the keys that it begins with: the counters', and that of the entry that runs
abbrev pub first_keys : Origin → List Key
first_keys Script = counters_key ∷ []
first_keys (Queue number generation) = counters_key ∷ entry_key number ∷ []
first_keys (Clock position) = counters_key ∷ []

-- at its start
abbrev pub begun : {O A : Type 0} → Origin → World O A → Tx O A
begun origin w = record {
  origin = origin;
  first = w;
  now = w;
  touched = [];
  deferred = [];
  collected = [];
  gathered = 0;
  text = [];
  run = 0;
  keys = first_keys origin;
  footprint = no_footprint;
}

-- with one more touched object
abbrev pub touching : {O A : Type 0} → ℕ → Tx O A → Tx O A
touching id x = record x { touched = x.touched ++ id ∷ [] }

-- with a change of the bones of the world now
abbrev pub with_bones : {O A : Type 0} → (Bones → Bones) → Tx O A → Tx O A
with_bones f x = record x { now = record x.now { bones = f x.now.bones } }

-- with a change of its footprint
abbrev pub footed : {O A : Type 0} → (Footprint → Footprint) → Tx O A → Tx O A
footed change x = record x { footprint = change x.footprint }

-- with these objects looked at
abbrev pub looking : {O A : Type 0} → List ℕ → Tx O A → Tx O A
looking ids = footed (with_looks ids)

-- with a number of an object or an activation asked for, where one is
abbrev pub drawing : {O A : Type 0} → Bool → Tx O A → Tx O A
drawing asked = footed (with_draw asked)

-- with a firing that was collected or dropped
abbrev pub queueing : {O A : Type 0} → Tx O A → Tx O A
queueing = footed with_queue
