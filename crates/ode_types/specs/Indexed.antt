-- What finds the classes of a list.
use Rattle.std.specs.Prelude.{◌≡◌, ℕ, List, map, length, Option}
use Rattle.std.specs.Cmp.Lexicographic.{slice_cmp}
use Rattle.std.specs.List.{position_from, range_with_len}
use Rattle.std.specs.Map.{lookup}
use Rattle.std.specs.Ordering.{nat_cmp, is_eq}
use Rattle.std.specs.Str.{bytes_eq}
use Rattle.std.specs.declared.vec.Vec.{Vec}
use Rattle.ode_value.specs.declared.class.Class.{Class}

-- the classes are numbered from 1
abbrev pub AreNumbered : List Class → Type 0
AreNumbered classes = map (λ (c : Class). c.number) classes ≡ range_with_len 1 (length classes)

-- the place of the class of this name
abbrev pub place_named : List Class → List ℕ → Option ℕ
place_named classes name = position_from (λ (c : Class). bytes_eq c.name name) 0 classes

-- under each name stands the place of the class that has it
abbrev pub ArePlaces : {A : Type 0} → List Class → List (Vec ℕ A × ℕ) → Type 0
ArePlaces classes entries =
    (name : List ℕ) → lookup (λ (k : Vec ℕ _). is_eq (slice_cmp nat_cmp name k.items)) entries ≡ place_named classes name
