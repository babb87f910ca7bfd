-- What operators make of values.
use Rattle.std.specs.Prelude.{ℤ, pos, Bool, not, cond, Result, Ok, Err}
use Rattle.std.specs.Cmp.Lexicographic.{slice_cmp}
use Rattle.std.specs.declared.cmp.Ordering.{Ordering}
use Rattle.std.specs.Ordering.{nat_cmp, int_cmp, is_eq, is_ne, is_lt, is_le, is_gt, is_ge}
use Rattle.ode_value.specs.declared.arithmetic.Fault.{Fault}
use Rattle.ode_value.specs.declared.arithmetic.Fault.TheVariants.{NoObject}
use Rattle.ode_value.specs.declared.operator.BinOp.{BinOp}
use Rattle.ode_value.specs.declared.operator.BinOp.TheVariants.{Sub, Eq, Ne, Lt, Le, Gt, Ge}
use Rattle.ode_value.specs.declared.operator.UnOp.{UnOp}
use Rattle.ode_value.specs.declared.operator.UnOp.TheVariants.{Minus, Not}
use Rattle.ode_value.specs.declared.value.Value.{Value}
use Rattle.ode_value.specs.declared.value.Value.TheVariants as value
use Rattle.ode_value.specs.Arithmetic.{is_arithmetic, int_result}
use Rattle.ode_value.specs.Same.{same_bool, same_ref}

-- a bool, and the result of arithmetic, as values
abbrev pub truth : Bool → Result Value Fault
truth b = Ok (value.Bool b)

abbrev pub int_value : Result ℤ Fault → Result Value Fault
int_value (Ok n) = Ok (value.Int n)
int_value (Err fault) = Err fault

-- what has no meaning reads as null does
abbrev pub misread : Result Value Fault
misread = Err (NoObject 0)

-- a comparison, by the order of the two
abbrev pub compared : BinOp → Ordering → Result Value Fault
compared Eq order = truth (is_eq order)
compared Ne order = truth (is_ne order)
compared Lt order = truth (is_lt order)
compared Le order = truth (is_le order)
compared Gt order = truth (is_gt order)
compared Ge order = truth (is_ge order)
compared _ order = misread

-- of values without an order, by whether the two are the same
abbrev pub matched : BinOp → Bool → Result Value Fault
matched Eq same = truth same
matched Ne same = truth (not same)
matched _ same = misread

-- of one value
abbrev pub unary_value : UnOp → Value → Result Value Fault
unary_value Minus (value.Int n) = int_value (int_result Sub (pos 0) n)
unary_value Not (value.Bool b) = truth (not b)
unary_value _ _ = misread

-- of two values of one sort; texts are compared by their bytes
abbrev pub binary_value : BinOp → Value → Value → Result Value Fault
binary_value op (value.Int m) (value.Int n) = cond (is_arithmetic op) (int_value (int_result op m n)) (compared op (int_cmp m n))
binary_value op (value.Text s) (value.Text t) = compared op (slice_cmp nat_cmp s t)
binary_value op (value.Bool b) (value.Bool c) = matched op (same_bool b c)
binary_value op (value.Reference r) (value.Reference s) = matched op (same_ref r s)
binary_value _ _ _ = misread
