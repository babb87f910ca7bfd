-- Values, frames, objects, firings and entries that fit a world, whether its objects were removed or not.
use Rattle.std.specs.Prelude.{◌≡◌, ◌<◌, ◌≤◌, ◌^◌, ℕ, List, map, length, true, Option, Some, None, slice_get}
use Rattle.std.specs.List.{AllByRecursion}
use Rattle.std.specs.Option.{IfSome, IsSomeAnd}
use Rattle.ode_value.specs.declared.class.Class.{Class}
use Rattle.ode_value.specs.declared.statement.Sort.{Sort}
use Rattle.ode_value.specs.declared.statement.Sort.TheVariants as sort
use Rattle.ode_value.specs.declared.value.Ref.{Ref}
use Rattle.ode_value.specs.declared.value.Value.{Value}
use Rattle.ode_value.specs.declared.value.Value.TheVariants as value
use Rattle.ode_value.specs.Classes.{trigger_at}
use Rattle.ode_value.specs.Denoting.{object_numbered, object_of}
use Rattle.ode_value.specs.Evaluation.{Frame}
use Rattle.ode_value.specs.Fields.{AreBorn, HasLiterals}
use Rattle.ode_value.specs.Fitting.{IsDrawn, FitsRef, FitsSort, FitFields, HaveTrigger, trigger_in}
use Rattle.ode_value.specs.GoodWorlds.{IsNext, RiseFrom, activation_of}
use Rattle.ode_value.specs.Limits.{number_limit}
use Rattle.ode_value.specs.Objects.{Activation}
use Rattle.ode_value.specs.Posting.{entry_of}
use Rattle.ode_value.specs.References.{IsRef}
use Rattle.ode_value.specs.Transactions.{Firing}
use Rattle.ode_value.specs.Versions.{Version}
use Rattle.ode_value.specs.Worlds.{Entry, Object, Bones, class_numbered}
use Rattle.ode_types.specs.Kept.{Setting}
use Rattle.ode_sound_laws.specs.Sound.{AreSound, IsKnown, checked_classes}

-- an object as if it weren't removed, and bones as if none were
abbrev pub alive : Object → Object
alive o = record o { live = true }

abbrev pub all_alive : Bones → Bones
all_alive b = record b { objects = map alive b.objects }

-- null
pub record IsNull (r : Ref) : Type 0 where
  pub object : r.object ≡ 0
  pub version : r.version ≡ None

-- a value fits a sort, and null where there is none; of a void call nothing is said
abbrev pub Fits : Bones → Option Sort → Value → Type 0
Fits b None (value.Reference r) = IsNull r
Fits b None _ = ⊥
Fits b (Some sort.Void) v = Unit {0}
Fits b (Some s) v = FitsSort (all_alive b) s v

-- each slot that may be read has a value that fits
abbrev pub FitSlots : Bones → List (Option Sort) → List Value → Type 0
FitSlots b slots locals = (place : ℕ) (s : Sort) → slice_get slots place ≡ Some (Some s) → IsSomeAnd (slice_get locals place) (Fits b (Some s))

-- a literal has an object of its class
pub record FitsLiteral (b : Bones) (l : Ref × ℕ) : Type 0 where
  pub is : IsRef l.0
  pub drawn : l.0.object < b.next
  pub object : IfSome (object_of (all_alive b) l.0) (λ o. (o.class ≡ l.1) × IsDrawn o.last l.0.version)

-- a frame fits the place of a body or of a statement
pub record FitsFrame (b : Bones) (at : Setting) (frame : Frame) : Type 0 where
  pub classes : at.classes ≡ checked_classes b.classes
  pub known : IfSome at.class (IsKnown b.classes)
  pub this : IfSome at.class (λ c. FitsRef (all_alive b) c.name frame.this)
  pub slots : FitSlots b at.slots frame.locals
  pub literals : AllByRecursion (FitsLiteral b) at.literals

-- a version: a drawn number from 1, an earlier parent, a stamp, fields that fit, those that came later with their literals
pub record FitsVersion (b : Bones) (c : Class) (last : ℕ) (v : Version) : Type 0 where
  pub some : 0 < v.number
  pub number : v.number ≤ last
  pub parent : IfSome v.parent (λ p. (0 < p) × (p < v.number))
  pub stamp : v.stamp ≤ length b.added
  pub fields : FitFields (all_alive b) c.fields v.fields
  pub later : HasLiterals v.stamp c.fields v.fields

-- an object of a known class, with versions and activations that fit
pub record FitsWorld (b : Bones) (o : Object) : Type 0 where
  pub number : o.id < b.next
  pub class : Class
  pub known : class_numbered o.class b.classes ≡ Some class
  pub last : o.last < 2 ^ 32
  pub versions : AllByRecursion (FitsVersion b class o.last) o.versions
  pub activations : AllByRecursion (λ (a : Activation). HaveTrigger (all_alive b) a.args (trigger_in b.classes o.class a)) o.activations

-- an entry: a known trigger, which the object's class has where there is such an object
pub record FitsEntry (b : Bones) (e : Entry) : Type 0 where
  pub trigger : HaveTrigger (all_alive b) e.args (trigger_at b.classes e.class e.trigger)
  pub drawn : e.object < b.next
  pub object : (o : Object) → object_numbered e.object b.objects ≡ Some o → IsSomeAnd (trigger_in b.classes o.class (activation_of e)) (λ t. Unit {0})

-- a firing: the same of its entry, and its trigger is the one of its place
pub record FitsFiring (b : Bones) (f : Firing) : Type 0 where
  pub entry : FitsEntry b (entry_of 0 f)
  pub trigger : trigger_at b.classes f.trigger.class f.trigger.place ≡ Some f.trigger

-- all objects fit, their numbers rise, the next number is in its range, and no field is above the newest stamp
pub record AreFit (b : Bones) : Type 0 where
  pub next : IsNext number_limit b.next
  pub rising : RiseFrom 0 (map (λ (o : Object). o.id) b.objects)
  pub born : AllByRecursion (AreBorn (length b.added)) (checked_classes b.classes)
  pub objects : AllByRecursion (FitsWorld b) b.objects

-- where an expression is typed, in a world whose objects fit and with a frame that fits
pub record IsReadable (b : Bones) (at : Setting) (frame : Frame) : Type 0 where
  pub sound : AreSound b.classes
  pub fit : AreFit b
  pub here : FitsFrame b at frame
