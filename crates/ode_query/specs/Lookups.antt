-- Objects of a variable that are looked up by a field.
use Rattle.std.specs.Prelude.{◌≡◌, ◌+◌, ℕ, List, [], ◌∷◌, map, true, Option, Some, None, Result, Ok, Err}
use Rattle.std.specs.List.{filter, flat_map}
use Rattle.std.specs.Option.{IfSome}
use Rattle.ode_index.specs.Numbers.{IsOf}
use Rattle.ode_links.specs.Linking.{Agree, IsKnown, field_of_local}
use Rattle.ode_query.specs.Rows.{begun_by, frame_of, passes}
use Rattle.ode_query.specs.declared.lookup.Lookup.{Lookup}
use Rattle.ode_query.specs.declared.lookup.Range.{Range}
use Rattle.ode_value.specs.Evaluation.{evaluate}
use Rattle.ode_value.specs.GoodWorlds.{RiseFrom}
use Rattle.ode_value.specs.Worlds.{Bones}
use Rattle.ode_value.specs.declared.arithmetic.Fault.{Fault}
use Rattle.ode_value.specs.declared.statement.Expr.{Expr}
use Rattle.ode_value.specs.declared.value.Value.{Value}

-- the value, where it is none of the faults
abbrev pub unless_fault : Result Value Fault → Option Value
unless_fault (Ok v) = Some v
unless_fault (Err fault) = None

-- what a field of an object is, by its number
abbrev pub field_at : Bones → ℕ → ℕ → Result Value Fault
field_at b place n = evaluate (field_of_local 0 place) b (frame_of (n ∷ []))

abbrev pub row_with : ℕ → Result Value Fault → List (Value × ℕ)
row_with n (Ok v) = (v, n) ∷ []
row_with n (Err fault) = []

-- the objects whose field has a value, each behind it
abbrev pub valued : Bones → ℕ → List ℕ → List (Value × ℕ)
valued b place ns = flat_map (λ n. row_with n (field_at b place n)) ns

-- in each combination that passes, the field of this variable's object has the value of what is known before, and the index has these objects
pub record IsLookup (b : Bones) (test : Option Expr) (variable : ℕ) (numbers : List ℕ) (lookup : Lookup) : Type 0 where
  pub agree : (ns : List ℕ) → passes b test ns ≡ true → Agree (evaluate (field_of_local variable lookup.link.place) b (frame_of ns)) (evaluate lookup.link.other b (frame_of ns))
  pub known : IsKnown variable lookup.link.other
  pub index : IsOf (valued b lookup.link.place numbers) lookup.index

pub record IsRange (b : Bones) (test : Option Expr) (variable : ℕ) (range : Range) : Type 0 where
  pub rising : RiseFrom 0 range.numbers
  pub lookup : IfSome range.lookup (IsLookup b test variable range.numbers)

-- of this variable and those behind it
abbrev pub AreRanges : Bones → Option Expr → ℕ → List Range → Type 0
AreRanges b test variable [] = Unit {0}
AreRanges b test variable (range ∷ ranges) = IsRange b test variable range × AreRanges b test (variable + 1) ranges

abbrev pub numbers_of : List Range → List (List ℕ)
numbers_of ranges = map (λ (range : Range). range.numbers) ranges

-- behind those chosen, the same combinations pass with few of these numbers as with all
abbrev pub AreEnough : Bones → Option Expr → List ℕ → List ℕ → List ℕ → Type 0
AreEnough b test chosen few all = (lists : List (List ℕ)) → filter (passes b test) (begun_by chosen (few ∷ lists)) ≡ filter (passes b test) (begun_by chosen (all ∷ lists))
