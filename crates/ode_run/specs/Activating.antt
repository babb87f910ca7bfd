-- The trigger that is activated.
use Rattle.std.specs.Prelude.{◌≡◌, ℕ, List, Some}
use Rattle.std.specs.List.{AllByRecursion}
use Rattle.ode_arising_laws.specs.Arising.{TakesTrigger}
use Rattle.ode_interpreter.specs.declared.firing.Trigger as code
use Rattle.ode_laws.specs.Alike.{NumberTx, NumberWorld}
use Rattle.ode_value.specs.Classes.{Trigger, trigger_named}
use Rattle.ode_value.specs.Denoting.{object_at}
use Rattle.ode_value.specs.Worlds.{Declared, Object}
use Rattle.ode_value.specs.declared.member.TriggerDecl.{TriggerDecl}

-- a trigger by its place, with its tree
abbrev pub trigger_at : code.Trigger → TriggerDecl → Trigger
trigger_at t decl = record { class = t.class; place = t.place; decl = decl }

-- an object is there, and is of this class
pub record IsOfClass (y : NumberTx) (id number : ℕ) : Type 0 where
  pub object : Object
  pub there : object_at y.now.bones id ≡ Some object
  pub class : object.class ≡ number

-- the class of an object that is there has this trigger under a name
pub record Names (y : NumberTx) (id : ℕ) (name : List ℕ) (t : Trigger) : Type 0 where
  pub object : Object
  pub there : object_at y.now.bones id ≡ Some object
  pub trigger : trigger_named y.now.bones.classes object.class name ≡ Some t

-- an object is there, and its class has the trigger of a class at a place
pub record Takes (first : NumberWorld) (y : NumberTx) (id class place : ℕ) : Type 0 where
  pub object : Object
  pub there : object_at y.now.bones id ≡ Some object
  pub takes : TakesTrigger first.bones.classes object.class class place

-- a class has each of these triggers
abbrev pub TakesAll : List Declared → ℕ → List code.Trigger → Type 0
TakesAll classes number ts = AllByRecursion (λ (t : code.Trigger). TakesTrigger classes number t.class t.place) ts
