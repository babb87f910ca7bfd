-- The fields of a class and the values that a version has of them. A version whose stamp is lower than a field's birth has no value of
-- its own for that field: it has the literal.
use Rattle.std.specs.Prelude.{◌≡◌, ◌≤◌, ℕ, zero, suc, List, [], ◌∷◌, ◌++◌, Bool, cond, nat_le, Some}
use Rattle.std.specs.List.{AllByRecursion, AllZip, filter}
use Rattle.std.specs.Option.{option_map_or}
use Rattle.ode_value.specs.declared.change.Added.{Added}
use Rattle.ode_value.specs.declared.class.Class.{Class}
use Rattle.ode_value.specs.declared.class.Field.{Field}
use Rattle.ode_value.specs.declared.value.Value.{Value}
use Rattle.ode_value.specs.Worlds.{Declared, class_numbered}

-- the fields of the class of this number
abbrev pub fields_of : List Declared → ℕ → List Field
fields_of classes number = option_map_or (λ (c : Class). c.fields) (class_numbered number classes) []

-- a field was there when so many had been added, and all of a class were
abbrev pub IsBorn : ℕ → Field → Type 0
IsBorn stamp f = f.birth ≤ stamp

abbrev pub AreBorn : ℕ → Class → Type 0
AreBorn stamp c = AllByRecursion (IsBorn stamp) c.fields

-- a field was there at this stamp
abbrev pub is_born : ℕ → Field → Bool
is_born stamp f = nat_le f.birth stamp

-- those that were
abbrev pub born_fields : ℕ → List Field → List Field
born_fields stamp fields = filter (is_born stamp) fields

-- of the values of all fields those of fields that were there
abbrev pub born_values : ℕ → List Field → List Value → List Value
born_values stamp (f ∷ fs) (v ∷ vs) = cond (is_born stamp f) (v ∷ born_values stamp fs vs) (born_values stamp fs vs)
born_values stamp _ _ = []

-- the value of a field that wasn't there is its literal
abbrev pub IsLiteral : ℕ → Field → Value → Type 0
IsLiteral stamp f v = cond (is_born stamp f) (Unit {0}) (f.literal ≡ Some v)

abbrev pub HasLiterals : ℕ → List Field → List Value → Type 0
HasLiterals stamp fields values = AllZip (IsLiteral stamp) fields values

-- a list with new members at a place, where it comes that far
abbrev pub put_in : {A : Type 0} → ℕ → List A → List A → List A
put_in zero new xs = new ++ xs
put_in (suc place) new [] = []
put_in (suc place) new (x ∷ xs) = x ∷ put_in place new xs

-- a field that was added, as one of the class
abbrev pub field_of : Added → Field
field_of a = record { name = a.name; sort = a.sort; birth = a.birth; literal = Some a.value }
