-- What a class has, with what its ancestors have.
use Rattle.std.specs.Prelude.{ℕ, List, [], ◌∷◌, reverse, map, Bool, false, cond, not, ◌==◌, Option, None, slice_get, pos}
use Rattle.std.specs.List.{flat_map, filter, find, list_any, enumerate_from}
use Rattle.std.specs.Option.{option_map, option_map_or, option_and_then, unwrap_or}
use Rattle.std.specs.Str.{bytes_eq}
use Rattle.ode_value.specs.declared.class.Class.{Class}
use Rattle.ode_value.specs.declared.event.Kind.{Kind}
use Rattle.ode_value.specs.declared.member.Constraint.{Constraint}
use Rattle.ode_value.specs.declared.member.Method.{Method}
use Rattle.ode_value.specs.declared.member.TriggerDecl.{TriggerDecl}
use Rattle.ode_value.specs.declared.statement.Sort.{Sort}
use Rattle.ode_value.specs.declared.statement.Sort.TheVariants as sort
use Rattle.ode_value.specs.declared.value.Value.{Value}
use Rattle.ode_value.specs.declared.value.Value.TheVariants as value
use Rattle.ode_value.specs.Pasts.{Watch}
use Rattle.ode_value.specs.Same.{same_kind}
use Rattle.ode_value.specs.Worlds.{Declared, class_numbered}

-- a trigger: the class that declares it, and its place there
pub record Trigger : Type 0 where
  pub class : ℕ
  pub place : ℕ
  pub decl : TriggerDecl

-- of classes with the latest first: a class, its parent, the parent's parent and so on; no class has number 0
abbrev pub upward : ℕ → List Declared → List Class
upward number [] = []
upward number (c ∷ earlier) = cond (c.class.number == number) (c.class ∷ upward (unwrap_or c.class.parent 0) earlier) (upward number earlier)

-- a class, its parent and so on, by its number
abbrev pub line_of : List Declared → ℕ → List Class
line_of classes number = upward number (reverse classes)

-- the same with ancestors first
abbrev pub family : List Declared → ℕ → List Class
family classes number = reverse (line_of classes number)

-- the class of a number has this name, or inherits from the one that has it
abbrev pub is_a : List Declared → ℕ → List ℕ → Bool
is_a classes number name = list_any (λ (c : Class). bytes_eq c.name name) (line_of classes number)

-- the nearest method of this name
abbrev pub method_named : List Declared → ℕ → List ℕ → Option Method
method_named classes number name = find (λ (m : Method). bytes_eq m.name name) (flat_map (λ (c : Class). c.methods) (line_of classes number))

-- the constraints, ancestors' first: the soft ones, or the others
abbrev pub constraints_of : Bool → List Declared → ℕ → List Constraint
constraints_of soft classes number =
    filter (λ (c : Constraint). cond c.soft soft (not soft)) (flat_map (λ (c : Class). c.constraints) (family classes number))

-- a trigger by its class, its place and its tree
abbrev pub trigger_of : ℕ → ℕ × TriggerDecl → Trigger
trigger_of class t = record { class = class; place = t.0; decl = t.1 }

-- the triggers that a class declares
abbrev pub own_triggers : Class → List Trigger
own_triggers c = map (trigger_of c.number) (enumerate_from 0 c.triggers)

-- all that it has, ancestors' first
abbrev pub triggers_of : List Declared → ℕ → List Trigger
triggers_of classes number = flat_map own_triggers (family classes number)

-- those of which a new object has an activation
abbrev pub initial_triggers : List Declared → ℕ → List Trigger
initial_triggers classes number = filter (λ (t : Trigger). t.decl.initial) (triggers_of classes number)

-- the trigger of this name that a class has
abbrev pub trigger_named : List Declared → ℕ → List ℕ → Option Trigger
trigger_named classes number name = find (λ (t : Trigger). bytes_eq t.decl.name name) (triggers_of classes number)

-- the trigger at a place of the class that declares it
abbrev pub trigger_at : List Declared → ℕ → ℕ → Option Trigger
trigger_at classes class place =
    option_map (λ t. trigger_of class (place, t)) (option_and_then (λ (c : Class). slice_get c.triggers place) (class_numbered class classes))

-- a class lists a kind, or an ancestor does
abbrev pub lists_kind : List Declared → ℕ → Kind → Bool
lists_kind classes number kind = option_map_or (λ (c : Class). list_any (same_kind kind) c.kinds) (class_numbered number classes) false

-- what an activation watches for
abbrev pub watch_of : Trigger → List Value → Watch
watch_of t args = record { class = t.class; trigger = t.place; event = t.decl.event; whole = t.decl.whole; args = args }

-- null
abbrev pub null : Value
null = value.Reference (record { object = 0; version = None })

-- the value of a field that isn't set, and of a method that ends without `return`
abbrev pub default_of : Sort → Value
default_of sort.Int = value.Int (pos 0)
default_of sort.Bool = value.Bool false
default_of sort.Text = value.Text []
default_of (sort.Reference class) = null
default_of sort.Void = null
