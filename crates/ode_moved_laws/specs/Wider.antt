-- Scopes of which one has more fields in the object's class.
use Rattle.std.specs.Prelude.{◌≡◌, ℕ, List, true, Option, Some}
use Rattle.ode_value.specs.declared.class.Field.{Field}
use Rattle.ode_value.specs.declared.event.Kind.{Kind}
use Rattle.ode_value.specs.declared.statement.Sort.{Sort}
use Rattle.ode_value.specs.declared.value.Value.{Value}
use Rattle.ode_value.specs.Moving.{moved}
use Rattle.ode_types.specs.Events.{event_params, is_listed}
use Rattle.ode_types.specs.Scopes.{Scope, own_field}
use Rattle.ode_types.specs.Sorts.{fits as is_fitting}
use Rattle.ode_types.specs.Typing.{value_sort}

-- what one scope sees, finds and takes the other does too, with so many more fields at a place
pub record IsWider (at more : ℕ) (s t : Scope) : Type 0 where
  pub seen : t.seen ≡ s.seen
  pub next : t.next ≡ s.next
  pub plain : t.is_plain ≡ s.is_plain
  pub own : (name : List ℕ) (f : ℕ × Field) → own_field s.class name ≡ Some f → own_field t.class name ≡ Some (moved at more f.0, f.1)
  pub literals : (v : Value) (o : Option Sort) → value_sort s.classes s.literals v ≡ Some o → value_sort t.classes t.literals v ≡ Some o
  pub fits : (o : Option Sort) (u : Sort) → is_fitting s.classes o u ≡ true → is_fitting t.classes o u ≡ true
  pub params : (k : Kind) → event_params t k ≡ event_params s k
  pub listed : (k : Kind) → is_listed s k ≡ true → is_listed t k ≡ true
