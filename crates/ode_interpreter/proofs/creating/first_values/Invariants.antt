use Rattle.std.proofs.Common.{◌≡◌, ◌++◌, map, drop}
use Rattle.ode_value.specs.Statements.{first_value}
use Rattle.ode_interpreter.proofs.creating.first_values.Given as goal

abbrev pub invariant-loop-field : goal.invariant-loop-field
invariant-loop-field l = l.values ++ map (first_value l.given) (drop l.field-index l.fields) ≡ map (first_value l.given) l.initial.fields
