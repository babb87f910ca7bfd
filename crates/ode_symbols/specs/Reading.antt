-- What is read of a plain expression: a value that stands somewhere, or one that was computed.
use Rattle.std.specs.Prelude.{true, false, Result, Ok, Err}
use Rattle.ode_value.specs.declared.arithmetic.Fault.{Fault}
use Rattle.ode_value.specs.declared.value.Value.{Value}
use Rattle.ode_value.specs.declared.operator.BinOp.{BinOp}
use Rattle.ode_value.specs.declared.operator.BinOp.TheVariants.{And, Or}
use Rattle.ode_value.specs.Masks.{side, with_value}
use Rattle.ode_value.specs.Operators.{truth, binary_value}
use Rattle.ode_symbols.specs.declared.plain.Read.{Read}
use Rattle.ode_symbols.specs.declared.plain.Read.TheVariants.{Seen, Made}

abbrev pub value_of : Read → Value
value_of (Seen v) = v.now
value_of (Made v) = v

abbrev pub result_of : Result Read Fault → Result Value Fault
result_of (Ok read) = Ok (value_of read)
result_of (Err fault) = Err fault

-- an operator, the left side of which has this value, and the right side comes to this
abbrev pub side_of : BinOp → Value → Result Value Fault → Result Value Fault
side_of And v right = side v right (truth false)
side_of Or v right = side v (truth true) right
side_of op v right = with_value right (binary_value op v)
