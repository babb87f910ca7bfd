use Rattle.std.specs.Prelude.{◌+◌, ◌*◌}
use Rattle.ode_value.specs.declared.statement.Expr.{size-Expr}
use Rattle.ode_expr.proofs.evaluation.+eval.Given as goal

-- the depth of what is evaluated, with a rank for each function
abbrev pub decreases-eval : goal.decreases-eval
decreases-eval g l = 2 * size-Expr l.e.now

abbrev pub decreases-eval_right : goal.decreases-eval_right
decreases-eval_right g l = 2 * size-Expr l.f.now + 1
