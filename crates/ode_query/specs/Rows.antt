-- The rows of a checked query over a world.
use Rattle.std.specs.Prelude.{ℕ, ◌*◌, List, [], ◌∷◌, ◌++◌, length, map, Bool, true, ◌&&◌, Option, Some, None, Result, Ok, Err}
use Rattle.std.specs.List.{filter, flat_map}
use Rattle.ode_asksyn.specs.declared.query.Query.{Query}
use Rattle.ode_index.specs.Sorting.{sorted}
use Rattle.ode_value.specs.Classes.{is_a}
use Rattle.ode_value.specs.Evaluation.{Frame, evaluate, no_frame}
use Rattle.ode_value.specs.Masks.{is_true}
use Rattle.ode_value.specs.Worlds.{Bones, Object}
use Rattle.ode_value.specs.declared.arithmetic.Fault.{Fault}
use Rattle.ode_value.specs.declared.statement.Expr.{Expr}
use Rattle.ode_value.specs.declared.value.Value.{Value}
use Rattle.ode_value.specs.declared.value.Value.TheVariants as value
use Rattle.ode_query.specs.declared.row.Row.{Row}

-- ---- combinations

-- an object is live, and of the class of this name or of one that inherits from it
abbrev pub is_in : Bones → List ℕ → Object → Bool
is_in b class o = o.live && is_a b.classes o.class class

-- the numbers of a class's objects, in rising order
abbrev pub instances : Bones → List ℕ → List ℕ
instances b class = map (λ (o : Object). o.id) (filter (is_in b class) b.objects)

-- those of each variable
abbrev pub all_instances : Bones → Query → List (List ℕ)
all_instances b q = map (λ (v : List ℕ × List ℕ). instances b v.1) q.over

-- one number of each list, the last fastest
abbrev pub combinations : List (List ℕ) → List (List ℕ)
combinations [] = [] ∷ []
combinations (ns ∷ lists) = flat_map (λ n. map (λ ms. n ∷ ms) (combinations lists)) ns

-- those that begin with these numbers
abbrev pub begun_by : List ℕ → List (List ℕ) → List (List ℕ)
begun_by chosen lists = map (λ ns. chosen ++ ns) (combinations lists)

-- how many they are
abbrev pub product : List ℕ → ℕ
product [] = 1
product (n ∷ ns) = n * product ns

unfoldable pub combination_count : Bones → Query → ℕ
combination_count b q = product (map (λ (ns : List ℕ). length ns) (all_instances b q))

-- ---- one combination

-- a variable's value is the generic reference to its object
abbrev pub reference_to : ℕ → Value
reference_to n = value.Reference (record { object = n; version = None })

abbrev pub frame_of : List ℕ → Frame
frame_of ns = record no_frame { locals = map reference_to ns }

-- the test is true; a fault isn't, and where there is no test each combination passes
abbrev pub passes : Bones → Option Expr → List ℕ → Bool
passes b None ns = true
passes b (Some e) ns = is_true (evaluate e b (frame_of ns))

-- what two come to, or the first fault
abbrev pub with_both : {X Y Z : Type 0} → (X → Y → Z) → Result X Fault → Result Y Fault → Result Z Fault
with_both f (Err fault) y = Err fault
with_both f (Ok x) (Err fault) = Err fault
with_both f (Ok x) (Ok y) = Ok (f x y)

-- what each comes to, or the first fault
abbrev pub all_of : {X Y : Type 0} → (X → Result Y Fault) → List X → Result (List Y) Fault
all_of f [] = Ok []
all_of f (x ∷ xs) = with_both (λ y ys. y ∷ ys) (f x) (all_of f xs)

abbrev pub values_of : Bones → List Expr → List ℕ → Result (List Value) Fault
values_of b es ns = all_of (λ e. evaluate e b (frame_of ns)) es

abbrev pub keyed : List Value → List Value → List Value × Row
keyed by show = (by, record { values = show })

-- the row of a combination that passes, behind what it is sorted by
abbrev pub row_of : Bones → Query → List ℕ → Result (List Value × Row) Fault
row_of b q ns = with_both keyed (values_of b q.by ns) (values_of b q.show ns)

-- ---- all

-- those of these combinations that pass, in their order, or the first fault
abbrev pub rows_from : Bones → Query → List (List ℕ) → Result (List (List Value × Row)) Fault
rows_from b q all = all_of (row_of b q) (filter (passes b q.test) all)

-- in the order of what they are sorted by; those that tie stay in theirs
abbrev pub in_order : Result (List (List Value × Row)) Fault → Result (List Row) Fault
in_order (Err fault) = Err fault
in_order (Ok rs) = Ok (map (λ (r : List Value × Row). r.1) (sorted rs))

-- the rows, or the first fault of what they are sorted by or of what they show
unfoldable pub rows : Bones → Query → Result (List Row) Fault
rows b q = in_order (rows_from b q (combinations (all_instances b q)))
