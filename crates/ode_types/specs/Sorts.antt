-- The sorts of expressions. Null has no sort of its own: where the sort of an expression is none, it is null.
use Rattle.std.specs.Prelude.{ℕ, List, Bool, true, false, cond, not, ◌&&◌, ◌||◌, Option, Some, None}
use Rattle.std.specs.Option.{option_map_or}
use Rattle.ode_value.specs.declared.class.Class.{Class}
use Rattle.ode_value.specs.declared.operator.BinOp.{BinOp}
use Rattle.ode_value.specs.declared.operator.BinOp.TheVariants.{Add, Sub, Mul, Div, Rem, Eq, Ne, Lt, Le, Gt, Ge, And, Or}
use Rattle.ode_value.specs.declared.operator.UnOp.{UnOp}
use Rattle.ode_value.specs.declared.operator.UnOp.TheVariants.{Minus, Not}
use Rattle.ode_value.specs.declared.statement.Sort.{Sort}
use Rattle.ode_value.specs.declared.statement.Sort.TheVariants as sort
use Rattle.ode_value.specs.Same.{same_sort}
use Rattle.ode_types.specs.Families.{class_named, is_a}

-- the class of this name has the other name, or an ancestor has it
abbrev pub inherits : List Class → List ℕ → List ℕ → Bool
inherits classes sub name = option_map_or (λ (c : Class). is_a classes c name) (class_named classes sub) false

-- null fits every reference sort, a subclass's reference its ancestors' sorts, and any other sort itself
abbrev pub fits : List Class → Option Sort → Sort → Bool
fits classes None (sort.Reference name) = true
fits classes None s = false
fits classes (Some (sort.Reference sub)) (sort.Reference name) = inherits classes sub name
fits classes (Some t) s = same_sort t s

-- the class of a reference; null has none
abbrev pub class_of : List Class → Option Sort → Option Class
class_of classes (Some (sort.Reference name)) = class_named classes name
class_of classes _ = None

-- a reference, or null
abbrev pub is_reference : Option Sort → Bool
is_reference None = true
is_reference (Some (sort.Reference name)) = true
is_reference _ = false

-- the value of a void call isn't shown
abbrev pub is_void : Option Sort → Bool
is_void (Some sort.Void) = true
is_void _ = false

-- what a `let` starts with: null and the value of a void call can't
abbrev pub starting : Option Sort → Option Sort
starting s = cond (is_void s) None s

-- an operand has this sort, and both have it
abbrev pub is_of : Sort → Option Sort → Bool
is_of s None = false
is_of s (Some t) = same_sort s t

abbrev pub are_of : Sort → Option Sort → Option Sort → Bool
are_of s a b = is_of s a && is_of s b

-- ints or texts; two of one sort, where references may be of any classes
abbrev pub are_ordered : Option Sort → Option Sort → Bool
are_ordered a b = are_of sort.Int a b || are_of sort.Text a b

abbrev pub are_equated : Option Sort → Option Sort → Bool
are_equated a b = are_ordered a b || are_of sort.Bool a b || is_reference a && is_reference b

-- a sort, where the operands fit
abbrev pub where_fit : Bool → Sort → Option Sort
where_fit fit s = cond fit (Some s) None

-- two texts are joined, but not in a plain expression; else two ints are added
abbrev pub sum_sort : Bool → Option Sort → Option Sort → Option Sort
sum_sort plain a b = cond (are_of sort.Text a b && not plain) (Some sort.Text) (where_fit (are_of sort.Int a b) sort.Int)

-- what an operator gives, where its operands fit it
abbrev pub unary_sort : UnOp → Option Sort → Option Sort
unary_sort Minus a = where_fit (is_of sort.Int a) sort.Int
unary_sort Not a = where_fit (is_of sort.Bool a) sort.Bool

abbrev pub binary_sort : Bool → BinOp → Option Sort → Option Sort → Option Sort
binary_sort plain Add a b = sum_sort plain a b
binary_sort plain Sub a b = where_fit (are_of sort.Int a b) sort.Int
binary_sort plain Mul a b = where_fit (are_of sort.Int a b) sort.Int
binary_sort plain Div a b = where_fit (are_of sort.Int a b) sort.Int
binary_sort plain Rem a b = where_fit (are_of sort.Int a b) sort.Int
binary_sort plain Eq a b = where_fit (are_equated a b) sort.Bool
binary_sort plain Ne a b = where_fit (are_equated a b) sort.Bool
binary_sort plain Lt a b = where_fit (are_ordered a b) sort.Bool
binary_sort plain Le a b = where_fit (are_ordered a b) sort.Bool
binary_sort plain Gt a b = where_fit (are_ordered a b) sort.Bool
binary_sort plain Ge a b = where_fit (are_ordered a b) sort.Bool
binary_sort plain And a b = where_fit (are_of sort.Bool a b) sort.Bool
binary_sort plain Or a b = where_fit (are_of sort.Bool a b) sort.Bool
