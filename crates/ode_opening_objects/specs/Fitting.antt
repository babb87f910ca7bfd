-- Which values fit the fields of a class or the parameters of a trigger, by what is known of the objects that they refer to.
use Rattle.std.specs.Prelude.{ℕ, zero, suc, List, [], ◌∷◌, length, Bool, true, false, cond, nat_le, nat_lt, ◌==◌, ◌&&◌, ◌||◌, Option, Some, None}
use Rattle.std.specs.Option.{option_map_or, unwrap_or}
use Rattle.std.specs.Str.{bytes_eq}
use Rattle.ode_codec.specs.Sorts.{has_sort}
use Rattle.ode_types.specs.Families.{class_numbered}
use Rattle.ode_value.specs.declared.binding.Param.{Param}
use Rattle.ode_value.specs.declared.class.Class.{Class}
use Rattle.ode_value.specs.declared.class.Field.{Field}
use Rattle.ode_value.specs.declared.statement.Sort.{Sort}
use Rattle.ode_value.specs.declared.statement.Sort.TheVariants as sort
use Rattle.ode_value.specs.declared.value.Ref.{Ref}
use Rattle.ode_value.specs.declared.value.Value.{Value}
use Rattle.ode_value.specs.declared.value.Value.TheVariants as value
use Rattle.ode_opening_objects.specs.declared.head.Head.{Head}

-- ---- sorts

abbrev pub of_field : Field → Sort
of_field f = f.sort

abbrev pub of_param : Param → Sort
of_param p = p.sort

-- from which stamp on there is one
abbrev pub born_field : Field → ℕ
born_field f = f.birth

abbrev pub born_param : Param → ℕ
born_param p = 0

-- a value for each member that was there at a stamp, of its sort
abbrev pub match_sorts : {M : Type 0} → ℕ → (M → ℕ) → (M → Sort) → List M → List Value → Bool
match_sorts stamp born of [] [] = true
match_sorts stamp born of [] (v ∷ vs) = false
match_sorts stamp born of (m ∷ ms) [] = cond (nat_le (born m) stamp) false (match_sorts stamp born of ms [])
match_sorts stamp born of (m ∷ ms) (v ∷ vs) =
    cond (nat_le (born m) stamp) (has_sort (of m) v && match_sorts stamp born of ms vs) (match_sorts stamp born of ms (v ∷ vs))

abbrev pub have_sorts : ℕ → List Field → List Value → Bool
have_sorts stamp fields values = match_sorts stamp born_field of_field fields values

-- ---- classes from one up

-- in so many steps from the class of a number up there is one that a test passes; no class has number 0
abbrev pub climbs_to : (Class → Bool) → ℕ → List Class → ℕ → Bool
climbs_to test zero classes number = false
climbs_to test (suc steps) classes number =
    option_map_or (λ (c : Class). test c || climbs_to test steps classes (unwrap_or c.parent 0)) (class_numbered classes number) false

abbrev pub is_named : List ℕ → Class → Bool
is_named name c = bytes_eq c.name name

abbrev pub is_numbered : ℕ → Class → Bool
is_numbered number c = c.number == number

abbrev pub climbs : ℕ → List Class → ℕ → List ℕ → Bool
climbs steps classes number name = climbs_to (is_named name) steps classes number

-- the class of a number has this name, or inherits from the class that has it
abbrev pub inherits : List Class → ℕ → List ℕ → Bool
inherits classes number name = climbs (length classes) classes number name

-- the class of a number is this one, or inherits from it
abbrev pub descends : List Class → ℕ → ℕ → Bool
descends classes number from = climbs_to (is_numbered from) (length classes) classes number

-- ---- references

-- a version that a reference names was there
abbrev pub is_drawn : ℕ → Option ℕ → Bool
is_drawn last None = true
is_drawn last (Some number) = nat_le number last

-- an object fits a reference to objects of a class
abbrev pub fits_object : List Class → List ℕ → Option ℕ → Head → Bool
fits_object classes class version h = inherits classes h.class class && is_drawn h.last version

module _ (next : ℕ) (classes : List Class) (heads : ℕ → Option Head) where
  -- a reference is null, or its number was drawn, and its object fits where it is there
  abbrev pub fits_reference : List ℕ → Ref → Bool
  fits_reference class r = r.object == 0 || (nat_lt r.object next && option_map_or (fits_object classes class r.version) (heads r.object) true)

  abbrev pub fits_sort : Sort → Value → Bool
  fits_sort (sort.Reference class) (value.Reference r) = fits_reference class r
  fits_sort _ _ = true

  -- the references among the values of members fit that were there at a stamp
  abbrev pub refer : {M : Type 0} → ℕ → (M → ℕ) → (M → Sort) → List M → List Value → Bool
  refer stamp born of (m ∷ ms) (v ∷ vs) =
      cond (nat_le (born m) stamp) (fits_sort (of m) v && refer stamp born of ms vs) (refer stamp born of ms (v ∷ vs))
  refer stamp born of _ _ = true

  abbrev pub fit_references : ℕ → List Field → List Value → Bool
  fit_references stamp fields values = refer stamp born_field of_field fields values
