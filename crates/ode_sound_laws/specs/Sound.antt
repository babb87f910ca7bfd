-- What the static rules promise of the declared classes, in the words of the machine.
use Rattle.std.specs.Prelude.{◌≡◌, ℕ, List, [], map, true, Some, slice_get}
use Rattle.std.specs.List.{AllByRecursion, AllZip}
use Rattle.ode_value.specs.declared.binding.Param.{Param}
use Rattle.ode_value.specs.declared.class.Class.{Class}
use Rattle.ode_value.specs.declared.class.Field.{Field}
use Rattle.ode_value.specs.declared.member.Method.{Method}
use Rattle.ode_value.specs.declared.member.TriggerDecl.{TriggerDecl}
use Rattle.ode_value.specs.declared.statement.Sort.{Sort}
use Rattle.ode_value.specs.declared.statement.Sort.TheVariants as sort
use Rattle.ode_value.specs.declared.statement.Stmt.{Stmt}
use Rattle.ode_value.specs.Classes as machine
use Rattle.ode_value.specs.Classes.{Trigger, is_a, triggers_of, trigger_at}
use Rattle.ode_value.specs.Fitting.{trigger_in}
use Rattle.ode_value.specs.Objects.{Activation}
use Rattle.ode_value.specs.Worlds as worlds
use Rattle.ode_value.specs.Worlds.{Declared}
use Rattle.ode_types.specs.Families.{class_named, class_numbered, field_named, line_of, method_named, trigger_named}
use Rattle.ode_types.specs.Sorts.{inherits}
use Rattle.ode_types.specs.Kept.{member_setting, is_body}

-- the classes as they were checked
abbrev pub checked_classes : List Declared → List Class
checked_classes cs = map (λ (d : Declared). d.class) cs

-- a sort that fields and parameters of triggers have
abbrev pub IsFieldSort : Sort → Type 0
IsFieldSort sort.Void = ⊥
IsFieldSort _ = Unit {0}

-- a class is the one of its name and the one of its number
pub record IsKnown (cs : List Declared) (c : Class) : Type 0 where
  pub named : class_named (checked_classes cs) c.name ≡ Some c
  pub numbered : worlds.class_numbered c.number cs ≡ Some c

-- a body with these parameters is typed in a known class, from which the class of a number inherits
pub record IsTypedIn (cs : List Declared) (number : ℕ) (params : List Param) (result : Sort) (body : List Stmt) : Type 0 where
  pub class : Class
  pub known : IsKnown cs class
  pub above : is_a cs number class.name ≡ true
  pub typed : is_body (member_setting (checked_classes cs) class params result) body ≡ true

-- an activation of a trigger, with no arguments
abbrev pub activation_by : Trigger → Activation
activation_by t = record { number = 0; class = t.class; trigger = t.place; args = []; on = true }

-- a trigger that a class has: it is the one of its class and place, and its action is typed
pub record IsSoundTrigger (cs : List Declared) (number : ℕ) (t : Trigger) : Type 0 where
  pub found : trigger_in cs number (activation_by t) ≡ Some t
  pub at : trigger_at cs t.class t.place ≡ Some t
  pub action : IsTypedIn cs number t.decl.params sort.Void t.decl.action
  pub sorts : AllByRecursion (λ (p : Param). IsFieldSort p.sort) t.decl.params
  pub initial : t.decl.initial ≡ true → t.decl.params ≡ []

-- the method that runs, by the one that is found for a class from which it inherits: it has the same sorts, and its body is typed
pub record Redefines (cs : List Declared) (number : ℕ) (name : List ℕ) (m : Method) : Type 0 where
  pub method : Method
  pub found : machine.method_named cs number name ≡ Some method
  pub params : AllZip (λ (p q : Param). q.sort ≡ p.sort) m.params method.params
  pub result : method.result ≡ m.result
  pub body : IsTypedIn cs number method.params method.result method.body

-- the trigger that is activated, by the tree that is found
pub record Inherits (cs : List Declared) (number : ℕ) (name : List ℕ) (t : TriggerDecl) : Type 0 where
  pub trigger : Trigger
  pub found : machine.trigger_named cs number name ≡ Some trigger
  pub same : trigger.decl ≡ t

-- The names and numbers of classes tell these apart. A class has its ancestors' fields at the same places, and no two of one name.
-- Methods are redefined with the same sorts. Triggers and methods are typed.
pub record AreSound (cs : List Declared) : Type 0 where
  pub inherited : (number : ℕ) (sub name : List ℕ) → is_a cs number sub ≡ true → inherits (checked_classes cs) sub name ≡ true → is_a cs number name ≡ true
  pub named : (name : List ℕ) (c : Class) → class_named (checked_classes cs) name ≡ Some c → IsKnown cs c × (c.name ≡ name)
  pub numbered : (number : ℕ) (c : Class) → class_numbered (checked_classes cs) number ≡ Some c → IsKnown cs c × (c.number ≡ number)
  pub itself : (c : Class) → IsKnown cs c → is_a cs c.number c.name ≡ true
  pub fields : (number : ℕ) (c d : Class) → IsKnown cs c → is_a cs number c.name ≡ true → worlds.class_numbered number cs ≡ Some d → (place : ℕ) (f : Field) → slice_get c.fields place ≡ Some f
      → slice_get d.fields place ≡ Some f
  pub apart : (c : Class) → IsKnown cs c → (place : ℕ) (f : Field) → slice_get c.fields place ≡ Some f → field_named c.fields f.name ≡ Some (place, f)
  pub sorts : (c : Class) → IsKnown cs c → AllByRecursion (λ (f : Field). IsFieldSort f.sort) c.fields
  pub methods : (number : ℕ) (c : Class) → IsKnown cs c → is_a cs number c.name ≡ true → (name : List ℕ) (m : Method) → method_named (line_of (checked_classes cs) c) name ≡ Some m → Redefines cs number name m
  pub activated : (number : ℕ) (c : Class) → IsKnown cs c → is_a cs number c.name ≡ true → (name : List ℕ) (t : TriggerDecl) → trigger_named (line_of (checked_classes cs) c) name ≡ Some t → Inherits cs number name t
  pub triggers : (number : ℕ) → AllByRecursion (IsSoundTrigger cs number) (triggers_of cs number)
  pub declared : (class place : ℕ) (t : Trigger) → trigger_at cs class place ≡ Some t → IsSoundTrigger cs class t
