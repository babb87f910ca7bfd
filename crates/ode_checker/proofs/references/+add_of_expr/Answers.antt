use Rattle.std.proofs.Common.{◌≡◌, [], ◌++◌, arith}
use Rattle.ode_types.specs.Literals.{expr_refs}
use Rattle.ode_types.proofs.LiteralLaws.{after_all, after_none, expr_literals}
use Rattle.ode_checker.proofs.references.+add_of_expr.Goals as goal

pub returns-in_ok-add_of_expr-in-Binary : goal.returns-in_ok-add_of_expr-in-Binary
returns-in_ok-add_of_expr-in-Binary t c =
    let level : expr_refs c.args.e.now ≡ expr_refs c.get-in-Binary.result.now ++ expr_refs c.get-in-Binary-2.result.now = grind (arith, expr_literals) in
    after_all c.add_of_expr-in-Binary-2.result c.args.refs.now c.add_of_expr-in-Binary.new.refs c.add_of_expr-in-Binary-2.new.refs
    (expr_refs c.get-in-Binary.result.now) (expr_refs c.get-in-Binary-2.result.now) (expr_refs c.args.e.now)
    c.add_of_expr-in-Binary-2.ensures c.in_ok-add_of_expr-in-Binary.ensures level

pub returns-in-Name : goal.returns-in-Name
returns-in-Name t c = let level : expr_refs c.args.e.now ≡ [] = grind (arith, expr_literals) in after_none c.args.refs.now (expr_refs c.args.e.now) level

pub returns-in-Local : goal.returns-in-Local
returns-in-Local t c = let level : expr_refs c.args.e.now ≡ [] = grind (arith, expr_literals) in after_none c.args.refs.now (expr_refs c.args.e.now) level

pub returns-in-Own : goal.returns-in-Own
returns-in-Own t c = let level : expr_refs c.args.e.now ≡ [] = grind (arith, expr_literals) in after_none c.args.refs.now (expr_refs c.args.e.now) level

pub returns-in-This : goal.returns-in-This
returns-in-This t c = let level : expr_refs c.args.e.now ≡ [] = grind (arith, expr_literals) in after_none c.args.refs.now (expr_refs c.args.e.now) level
