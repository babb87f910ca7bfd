-- Watches, classes and objects where a class gets fields.
use Rattle.std.specs.Prelude.{◌≡◌, ◌<◌, ◌≤◌, ℕ, List, length, map, Bool, true, false, Some}
use Rattle.std.specs.List.{AllByRecursion, AllZip}
use Rattle.std.specs.Option.{IsSome, option_map}
use Rattle.ode_value.specs.declared.change.Change.{Change}
use Rattle.ode_value.specs.declared.class.Field.{Field}
use Rattle.ode_value.specs.declared.event.EventExpr.{EventExpr}
use Rattle.ode_value.specs.declared.member.TriggerDecl.{TriggerDecl}
use Rattle.ode_value.specs.declared.value.Value.{Value}
use Rattle.ode_value.specs.Changing.{added_by, changed_number, changed_place, gets, literals_of}
use Rattle.ode_value.specs.Classes.{is_a}
use Rattle.ode_value.specs.Denoting.{object_numbered}
use Rattle.ode_value.specs.Fields.{field_of, fields_of, put_in}
use Rattle.ode_value.specs.Firings.{watch_by}
use Rattle.ode_value.specs.Moving.{moved_event}
use Rattle.ode_value.specs.Objects.{Activation}
use Rattle.ode_value.specs.Pasts.{Watch}
use Rattle.ode_value.specs.Versions.{Version}
use Rattle.ode_value.specs.Worlds.{Bones, Declared, Object, class_numbered}

-- what an activation watches for, with so many more fields at a place
abbrev pub moved_watch : ℕ → ℕ → Watch → Watch
moved_watch at more w = record w { event = moved_event at more w.event }

-- ---- classes that are checked anew

-- an event of a class, which gets the fields or doesn't
abbrev pub event_where : ℕ → ℕ → Bool → EventExpr → EventExpr
event_where at more true e = moved_event at more e
event_where at more false e = e

-- a trigger as it was, but for its event and its action
pub record IsAnew (f : EventExpr → EventExpr) (t u : TriggerDecl) : Type 0 where
  pub name : u.name ≡ t.name
  pub initial : u.initial ≡ t.initial
  pub perpetual : u.perpetual ≡ t.perpetual
  pub whole : u.whole ≡ t.whole
  pub mode : u.mode ≡ t.mode
  pub params : u.params ≡ t.params
  pub event : u.event ≡ f t.event

-- the fields of a class, which gets these at a place or doesn't
abbrev pub fields_where : ℕ → List Field → Bool → List Field → List Field
fields_where at new true fields = put_in at new fields
fields_where at new false fields = fields

-- a class as it was, which has new fields at a place or hasn't, but for its bodies and the places in its masks
pub record IsClassAnew (at : ℕ) (new : List Field) (gets : Bool) (c d : Declared) : Type 0 where
  pub tree : d.tree ≡ c.tree
  pub number : d.class.number ≡ c.class.number
  pub name : d.class.name ≡ c.class.name
  pub parent : d.class.parent ≡ c.class.parent
  pub kinds : d.class.kinds ≡ c.class.kinds
  pub fields : d.class.fields ≡ fields_where at new gets c.class.fields
  pub triggers : AllZip (IsAnew (event_where at (length new) gets)) c.class.triggers d.class.triggers

-- each class, where these numbers get the fields
abbrev pub AreAnew : ℕ → List Field → (ℕ → Bool) → List Declared → List Declared → Type 0
AreAnew at new test cs ds = AllZip (λ (c d : Declared). IsClassAnew at new (test c.class.number) c d) cs ds

-- a field that a version of this stamp hasn't, with its literal
pub record IsNew (stamp : ℕ) (f : Field) (v : Value) : Type 0 where
  pub later : stamp < f.birth
  pub literal : f.literal ≡ Some v

-- ---- objects of a world

-- what an activation watches for, where its object gets the fields and where it doesn't
abbrev pub IsWatched : ℕ → ℕ → List Declared → List Declared → Bool → Activation → Type 0
IsWatched at more old new true a = watch_by new a ≡ option_map (moved_watch at more) (watch_by old a)
IsWatched at more old new false a = watch_by new a ≡ watch_by old a

module _ (b : Bones) (c : Change) (classes : List Declared) where
  -- the fields that the change adds, and the classes behind it
  abbrev pub new_fields : List Field
  new_fields = map field_of (added_by (changed_number b c) (length b.added) c)

  abbrev pub AreBehind : Type 0
  AreBehind = AreAnew (changed_place b c) new_fields (λ number. is_a b.classes number c.class) b.classes classes

  -- no other object has its number
  abbrev pub IsFound : Object → Type 0
  IsFound o = object_numbered o.id b.objects ≡ Some o

  -- each activation of an object, by all classes as they are then
  abbrev pub AreWatched : Object → Type 0
  AreWatched o = AllByRecursion (IsWatched (changed_place b c) (length (literals_of c)) b.classes classes (gets b c o)) o.activations

  -- each version of an object has a value of each field of its class
  pub record HasValues (o : Object) : Type 0 where
    pub class : IsSome (class_numbered o.class b.classes)
    pub stamps : AllByRecursion (λ (v : Version). v.stamp ≤ length b.added) o.versions
    pub values : AllByRecursion (λ (v : Version). length v.fields ≡ length (fields_of b.classes o.class)) o.versions
