-- Ints of 64 bits, by all whole numbers.
use Rattle.std.specs.Prelude.{ℤ, pos, negsuc, ◌+ℤ◌, ◌-ℤ◌, ◌*ℤ◌, int_le, int_div, int_rem, Bool, true, false, cond, ◌&&◌, Result, Ok, Err}
use Rattle.std.specs.Ordering.{int_eq}
use Rattle.ode_value.specs.declared.arithmetic.Fault.{Fault}
use Rattle.ode_value.specs.declared.arithmetic.Fault.TheVariants.{Overflow, DivideByZero}
use Rattle.ode_value.specs.declared.operator.BinOp.{BinOp}
use Rattle.ode_value.specs.declared.operator.BinOp.TheVariants.{Add, Sub, Mul, Div, Rem}

-- a whole number from -2^63 to 2^63 - 1
abbrev pub within : ℤ → Result ℤ Fault
within z = cond (int_le (negsuc 9223372036854775807) z && int_le z (pos 9223372036854775807)) (Ok z) (Err Overflow)

-- by a divisor that isn't 0
abbrev pub by : ℤ → ℤ → Result ℤ Fault
by divisor z = cond (int_eq divisor (pos 0)) (Err DivideByZero) (within z)

-- the operators of arithmetic
abbrev pub is_arithmetic : BinOp → Bool
is_arithmetic Add = true
is_arithmetic Sub = true
is_arithmetic Mul = true
is_arithmetic Div = true
is_arithmetic Rem = true
is_arithmetic _ = false

-- their results; quotient and remainder are those of a division towards zero
abbrev pub int_result : BinOp → ℤ → ℤ → Result ℤ Fault
int_result Add a b = within (a +ℤ b)
int_result Sub a b = within (a -ℤ b)
int_result Mul a b = within (a *ℤ b)
int_result Div a b = by b (int_div a b)
int_result _ a b = by b (int_rem a b)
