-- Where an expression or a statement stands, and what a name means there.
use Rattle.std.specs.Prelude.{ℕ, ◌+◌, List, [], ◌∷◌, ◌++◌, length, Bool, true, false, is_some, Option, Some}
use Rattle.std.specs.List.{find}
use Rattle.std.specs.Option.{option_map, option_map_or, option_or}
use Rattle.std.specs.Str.{bytes_eq}
use Rattle.ode_value.specs.declared.binding.Param.{Param}
use Rattle.ode_value.specs.declared.binding.Var.{Var}
use Rattle.ode_value.specs.declared.binding.Var.TheVariants as var
use Rattle.ode_value.specs.declared.class.Class.{Class}
use Rattle.ode_value.specs.declared.class.Field.{Field}
use Rattle.ode_value.specs.declared.reason.CheckError.{CheckError}
use Rattle.ode_value.specs.declared.reason.CheckError.TheVariants.{WrongSort}
use Rattle.ode_value.specs.declared.statement.Sort.{Sort}
use Rattle.ode_value.specs.declared.value.Ref.{Ref}
use Rattle.ode_types.specs.Families.{field_named}
use Rattle.ode_types.specs.Limits.{in_slots}

-- the classes that are known; the class that `this` is of; the member's name; the parameters and locals that are seen, each with
-- its slot; the next local's slot; what `return` gives; an expression is plain; the classes of the literals
pub record Scope : Type 0 where
  pub classes : List Class
  pub class : Option Class
  pub member : List ℕ
  pub seen : List (ℕ × Param)
  pub next : ℕ
  pub result : Sort
  pub is_plain : Bool
  pub literals : List (Ref × ℕ)

-- at the start of a class's member with these parameters
abbrev pub member_scope : List Class → Class → List ℕ → List Param → Sort → Scope
member_scope classes c name params result = record {
  classes = classes;
  class = Some c;
  member = name;
  seen = in_slots 0 params;
  next = length params;
  result = result;
  is_plain = false;
  literals = [];
}

-- the same where expressions are plain
abbrev pub plain_scope : Scope → Scope
plain_scope scope = record scope { is_plain = true }

-- with the parameters of an event behind those that are seen
abbrev pub with_params : List Param → Scope → Scope
with_params params scope = record scope { seen = scope.seen ++ in_slots scope.next params }

-- with one more local
abbrev pub with_local : List ℕ → Sort → Scope → Scope
with_local name s scope = record scope {
  seen = scope.seen ++ (scope.next, record { name = name; sort = s }) ∷ [];
  next = scope.next + 1;
}

-- behind an inner body: its locals aren't seen any more, and keep their slots
abbrev pub behind : Scope → Scope → Scope
behind inner scope = record scope { next = inner.next }

-- what every other mismatch is
abbrev pub wrong : Scope → CheckError
wrong scope = WrongSort scope.member

-- the first parameter or local of this name among those that are seen, and the field of the class
abbrev pub local_named : List (ℕ × Param) → List ℕ → Option (ℕ × Param)
local_named seen name = find (λ (p : ℕ × Param). bytes_eq p.1.name name) seen

abbrev pub own_field : Option Class → List ℕ → Option (ℕ × Field)
own_field class name = field_named (option_map_or (λ (c : Class). c.fields) class []) name

-- a parameter or local of this name is seen
abbrev pub is_seen : Scope → List ℕ → Bool
is_seen scope name = is_some (local_named scope.seen name)

-- what a name means as a field, and its sort
abbrev pub own_meaning : Option Class → List ℕ → Option (Var × Sort)
own_meaning class name = option_map (λ (f : ℕ × Field). (var.Own f.0, f.1.sort)) (own_field class name)

-- what a name means: a parameter or a local, else a field; and its sort
abbrev pub meaning : Scope → List ℕ → Option (Var × Sort)
meaning scope name = option_or (option_map (λ (p : ℕ × Param). (var.Local p.0, p.1.sort)) (local_named scope.seen name)) (own_meaning scope.class name)
