use Rattle.std.proofs.Common.{◌≡◌, take}
use Rattle.ode_value.proofs.statement.+statements.Given as goal

-- the statements so far
abbrev pub invariant-copy_body-loop-statement : goal.invariant-copy_body-loop-statement
invariant-copy_body-loop-statement l = l.copy ≡ take l.statement-index l.body
