use Rattle.std.specs.Prelude.{◌+◌, ◌*◌}
use Rattle.ode_value.specs.declared.statement.Expr.{size-Expr}
use Rattle.ode_symbols.proofs.plain.+evaluate.Given as goal

-- the depth of what is read, with a rank for each function
abbrev pub decreases-evaluate : goal.decreases-evaluate
decreases-evaluate l = 2 * size-Expr l.e.now

abbrev pub decreases-evaluate_right : goal.decreases-evaluate_right
decreases-evaluate_right l = 2 * size-Expr l.f.now + 1
