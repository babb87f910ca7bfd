use Rattle.std.proofs.Common.{◌≡◌, ◌++◌, codes, drop, map}
use Rattle.ode_value.specs.PrintedClasses.{stmt_text}
use Rattle.ode_print.specs.Joined.{behind}
use Rattle.ode_print.proofs.statement.+statements.Given as goal

abbrev pub invariant-put_body-loop-s : goal.invariant-put_body-loop-s
invariant-put_body-loop-s l = l.out.items ++ behind (codes " ") (map stmt_text (drop l.s-index l.body)) ≡ l.fn.out.items ++ codes "{" ++ behind (codes " ") (map stmt_text l.body)
