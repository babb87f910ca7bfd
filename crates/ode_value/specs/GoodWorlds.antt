-- Which worlds are good: what an opening asks of records, and what the machine keeps beside.
use Rattle.std.specs.Prelude.{◌≡◌, ◌<◌, ◌≤◌, ◌^◌, ◌+◌, ℕ, List, [], ◌∷◌, ◌++◌, map, length, true, FitsSigned, nat_eq, codes, Ok}
use Rattle.std.specs.Int.{w64}
use Rattle.std.specs.List.{AllByRecursion, AllZip, IsDistinct, flat_map}
use Rattle.std.specs.Option.{IfSome, IsSome}
use Rattle.ode_value.specs.declared.change.Added.{Added}
use Rattle.ode_value.specs.declared.class.Class.{Class}
use Rattle.ode_value.specs.declared.statement.Sort.{Sort}
use Rattle.ode_value.specs.declared.statement.Sort.TheVariants as sort
use Rattle.ode_value.specs.declared.statement.Statement.TheVariants as statement
use Rattle.ode_value.specs.Objects.{Activation, Histories, Starts, IsWithin}
use Rattle.ode_value.specs.Pasts.{Kept}
use Rattle.ode_value.specs.PrintedClasses.{decl_text}
use Rattle.ode_value.specs.Worlds.{Declared, Entry, Position, class_named, class_numbered, Object, Bones}
use Rattle.ode_value.specs.Versions.{Version}
use Rattle.ode_value.specs.Classes.{trigger_at}
use Rattle.ode_value.specs.Changing.{added_to}
use Rattle.ode_value.specs.Fields.{AreBorn, HasLiterals}
use Rattle.ode_value.specs.Fitting.{FitFields, HaveTrigger, IsLiteralOf, trigger_in}
use Rattle.ode_value.specs.Limits.{number_limit, transaction_limit, queue_limit, generation_limit, weight_limit}
use Rattle.ode_value.specs.ClassLimits.{limits_class}
use Rattle.ode_value.specs.Language.{ListWorld, Language}
use Rattle.ode_value.specs.Text.{IsName}
use Rattle.ode_value.specs.Weights.{weight}
use Rattle.ode_value.specs.Denoting.{object_at}

-- numbers that rise, from this one on
abbrev pub RiseFrom : ℕ → List ℕ → Type 0
RiseFrom low [] = Unit {0}
RiseFrom low (n ∷ ns) = (low ≤ n) × RiseFrom (n + 1) ns

-- a next number lies in its range
pub record IsNext (most n : ℕ) : Type 0 where
  pub some : 1 ≤ n
  pub bounded : n ≤ most

-- ---- classes

-- A class's text is read as its tree, which is accepted after the earlier classes with the fields that were added to it, and gives
-- the class.
pub record IsClass (l : Language) (added : List Added) (earlier : List Declared) (c : Declared) : Type 0 where
  pub number : c.class.number ≡ length earlier + 1
  pub low : c.class.number < 2 ^ 32
  pub text : l.statement_of (decl_text c.tree ++ codes ";") ≡ Ok (statement.Class c.tree)
  pub checked : l.class_of (map (λ (d : Declared). d.class) earlier) (added_to c.class.number added) c.tree ≡ Ok c.class
  pub limits : limits_class c ≡ Ok c
  pub fields : AreBorn (length added) c.class

-- each class, behind the earlier ones
abbrev pub AreClasses : Language → List Added → List Declared → List Declared → Type 0
AreClasses l added earlier [] = Unit {0}
AreClasses l added earlier (c ∷ cs) = IsClass l added earlier c × AreClasses l added (earlier ++ c ∷ []) cs

-- a sort's class is known, where it is one of references
abbrev pub IsKnownSort : List Declared → Sort → Type 0
IsKnownSort classes (sort.Reference name) = IsSome (class_named name classes)
IsKnownSort classes _ = Unit {0}

-- an added field: a known class, a name, a known sort, and a literal of it, which is null where it is one of references
pub record IsAdded (classes : List Declared) (a : Added) : Type 0 where
  pub class : IsSome (class_numbered a.class classes)
  pub name : IsName a.name
  pub sort : IsKnownSort classes a.sort
  pub literal : IsLiteralOf a.sort a.value

-- fields with births that rise by one
abbrev pub AreAdded : List Declared → ℕ → List Added → Type 0
AreAdded classes birth [] = Unit {0}
AreAdded classes birth (a ∷ more) = (a.birth ≡ birth) × IsAdded classes a × AreAdded classes (birth + 1) more

-- ---- objects

-- a version: a drawn number, an earlier parent, a stamp, fields that fit, of which those that came later are their literals
pub record IsVersion (b : Bones) (c : Class) (last : ℕ) (v : Version) : Type 0 where
  pub number : v.number ≤ last
  pub parent : IfSome v.parent (λ p. (0 < p) × (p < v.number))
  pub stamp : v.stamp ≤ length b.added
  pub fields : FitFields b c.fields v.fields
  pub later : HasLiterals v.stamp c.fields v.fields

-- an activation: a trigger that the class has, a drawn number, on
pub record IsActivation (b : Bones) (class : ℕ) (a : Activation) : Type 0 where
  pub trigger : HaveTrigger b a.args (trigger_in b.classes class a)
  pub number : a.number < b.next
  pub on : a.on ≡ true

-- an object: live, with versions and activations by rising numbers
pub record IsObject (b : Bones) (o : Object) : Type 0 where
  pub number : o.id < b.next
  pub class : IsSome (class_numbered o.class b.classes)
  pub live : o.live ≡ true
  pub last : o.last < 2 ^ 32
  pub some : 0 < length o.versions
  pub rising : RiseFrom 0 (map (λ (v : Version). v.number) o.versions)
  pub versions : IfSome (class_numbered o.class b.classes) (λ c. AllByRecursion (IsVersion b c o.last) o.versions)
  pub rising_activations : RiseFrom 0 (map (λ (a : Activation). a.number) o.activations)
  pub activations : AllByRecursion (IsActivation b o.class) o.activations

-- the numbers of an object and its activations
abbrev pub drawn_numbers : Object → List ℕ
drawn_numbers o = o.id ∷ map (λ (a : Activation). a.number) o.activations

-- ---- the queue and the clock

-- an entry as an activation
abbrev pub activation_of : Entry → Activation
activation_of e = record { number = 0; class = e.class; trigger = e.trigger; args = e.args; on = true }

-- an entry: a drawn number, a generation, a known trigger, which the object's class has where the object is there
pub record IsEntry (b : Bones) (q : ℕ × Entry) : Type 0 where
  pub number : q.0 < b.next_entry
  pub generation : (1 ≤ q.1.generation) × (q.1.generation ≤ generation_limit)
  pub trigger : HaveTrigger b q.1.args (trigger_at b.classes q.1.class q.1.trigger)
  pub object : q.1.object < b.next
  pub fits : IfSome (object_at b q.1.object) (λ o. IsSome (trigger_in b.classes o.class (activation_of q.1)))

-- a position of the clock
pub record IsPosition (p : Position) : Type 0 where
  pub instant : FitsSigned w64 p.instant
  pub object : p.object < 2 ^ 64
  pub place : p.place < 2 ^ 32

-- ---- the whole

-- bones: no two objects or activations have one number
pub record AreBones (l : Language) (b : Bones) : Type 0 where
  pub classes : AreClasses l b.added [] b.classes
  pub added : AreAdded b.classes 1 b.added
  pub few_added : length b.added < 2 ^ 32
  pub rising : RiseFrom 0 (map (λ (o : Object). o.id) b.objects)
  pub objects : AllByRecursion (IsObject b) b.objects
  pub numbers : IsDistinct nat_eq (flat_map drawn_numbers b.objects)
  pub next : IsNext number_limit b.next
  pub transaction : IsNext transaction_limit b.transaction
  pub next_entry : IsNext number_limit b.next_entry
  pub few : length b.queue ≤ queue_limit
  pub rising_queue : RiseFrom 0 (map (λ (q : ℕ × Entry). q.0) b.queue)
  pub queue : AllByRecursion (IsEntry b) b.queue
  pub clock : IfSome b.clock IsPosition
  pub light : weight b ≤ weight_limit

-- an activation's starts lie within the lists of its object
pub record IsStart (h : Histories) (a : Activation) (row : ℕ × Starts) : Type 0 where
  pub number : row.0 ≡ a.number
  pub within : IsWithin row.1 h

-- an object's past has a row for each activation
pub record IsPast (o : Object) (row : ℕ × Kept Histories Starts) : Type 0 where
  pub number : row.0 ≡ o.id
  pub starts : AllZip (IsStart row.1.own) o.activations row.1.activations

-- a good world, whose pasts have a row for each object
pub record IsGood (l : Language) (w : ListWorld) : Type 0 where
  pub bones : AreBones l w.bones
  pub pasts : AllZip IsPast w.bones.objects w.pasts
