-- Which values fit a sort, and which arguments a trigger.
use Rattle.std.specs.Prelude.{◌≡◌, ◌<◌, ◌≤◌, ℕ, List, IsTrue, FitsSigned, Option, Some, None}
use Rattle.std.specs.Int.{w64}
use Rattle.std.specs.List.{AllZip, find}
use Rattle.std.specs.Option.{IfSome}
use Rattle.ode_value.specs.declared.binding.Param.{Param}
use Rattle.ode_value.specs.declared.class.Field.{Field}
use Rattle.ode_value.specs.declared.statement.Sort.{Sort}
use Rattle.ode_value.specs.declared.statement.Sort.TheVariants as sort
use Rattle.ode_value.specs.declared.value.Ref.{Ref}
use Rattle.ode_value.specs.declared.value.Value.{Value}
use Rattle.ode_value.specs.declared.value.Value.TheVariants as value
use Rattle.ode_value.specs.Lengths.{values_length}
use Rattle.ode_value.specs.Objects.{Activation}
use Rattle.ode_value.specs.References.{IsRef}
use Rattle.ode_value.specs.Text.{IsText}
use Rattle.ode_value.specs.Worlds.{Declared, Object, Bones}
use Rattle.ode_value.specs.Classes.{Trigger, is_a, null, triggers_of}
use Rattle.ode_value.specs.Firings.{is_of}
use Rattle.ode_value.specs.Limits.{args_limit}
use Rattle.ode_value.specs.Denoting.{object_of}

-- a version that a reference names was drawn
abbrev pub IsDrawn : ℕ → Option ℕ → Type 0
IsDrawn last None = Unit {0}
IsDrawn last (Some v) = v ≤ last

-- an object fits a reference to one of a class
pub record FitsObject (b : Bones) (class : List ℕ) (r : Ref) (o : Object) : Type 0 where
  pub fits : IsTrue (is_a b.classes o.class class)
  pub version : IsDrawn o.last r.version

-- a reference is null, or its number was drawn, and its object fits where it is there
pub record FitsRef (b : Bones) (class : List ℕ) (r : Ref) : Type 0 where
  pub is : IsRef r
  pub drawn : r.object < b.next
  pub object : IfSome (object_of b r) (FitsObject b class r)

-- a literal of a sort: of a reference's it is null
abbrev pub IsLiteralOf : Sort → Value → Type 0
IsLiteralOf sort.Int (value.Int n) = FitsSigned w64 n
IsLiteralOf sort.Bool (value.Bool b) = Unit {0}
IsLiteralOf sort.Text (value.Text t) = IsText t
IsLiteralOf (sort.Reference class) (value.Reference r) = value.Reference r ≡ null
IsLiteralOf _ _ = ⊥

-- a value fits a sort
abbrev pub FitsSort : Bones → Sort → Value → Type 0
FitsSort b sort.Int (value.Int n) = FitsSigned w64 n
FitsSort b sort.Bool (value.Bool t) = Unit {0}
FitsSort b sort.Text (value.Text t) = IsText t
FitsSort b (sort.Reference class) (value.Reference r) = FitsRef b class r
FitsSort b _ _ = ⊥

-- values fit the fields of a class
abbrev pub FitFields : Bones → List Field → List Value → Type 0
FitFields b fields values = AllZip (λ (f : Field). FitsSort b f.sort) fields values

-- values fit the parameters of a trigger, and aren't too long
pub record FitTrigger (b : Bones) (args : List Value) (t : Trigger) : Type 0 where
  pub sorts : AllZip (λ (p : Param). FitsSort b p.sort) t.decl.params args
  pub short : values_length args ≤ args_limit

-- there is a trigger, and they fit it
abbrev pub HaveTrigger : Bones → List Value → Option Trigger → Type 0
HaveTrigger b args None = ⊥
HaveTrigger b args (Some t) = FitTrigger b args t

-- the trigger of an activation, where a class has it
abbrev pub trigger_in : List Declared → ℕ → Activation → Option Trigger
trigger_in classes class a = find (λ t. is_of t a) (triggers_of classes class)
