use Rattle.std.proofs.Common.{◌≡◌, ◌++◌}
use Rattle.std.specs.List.{flat_map}
use Rattle.ode_types.specs.Literals.{expr_refs, literals}
use Rattle.ode_types.proofs.LiteralLaws.{after_all, after_both, after_none, literals-If, literals-TAbort}
use Rattle.ode_checker.proofs.references.+literals.Goals as goal

pub add_of_stmt-returns-in_ok-add_of_body-in-If : goal.add_of_stmt-returns-in_ok-add_of_body-in-If
add_of_stmt-returns-in_ok-add_of_body-in-If t c =
    let level : literals c.args.s.now ≡ expr_refs c.in-If.test ++ flat_map literals c.in-If.first ++ flat_map literals c.in-If.second = literals-If c.args.s.now c.in-If.test c.in-If.first c.in-If.second c.in-If.is in
    let both = after_both c.args.refs.now c.add_of_expr.new.refs c.add_of_body.new.refs (expr_refs c.in-If.test) (flat_map literals c.as_slice.result.now) c.in_ok-add_of_body-in-If.ensures c.in_ok-add_of_expr-in-If.ensures in
    after_all c.add_of_body-in-If.result c.args.refs.now c.add_of_body.new.refs c.add_of_body-in-If.new.refs
    (expr_refs c.in-If.test ++ flat_map literals c.as_slice.result.now) (flat_map literals c.as_slice-in-If.result.now) (literals c.args.s.now)
    c.add_of_body-in-If.ensures both (cc (level, c.as_slice.ensures, c.as_slice-in-If.ensures))

pub add_of_stmt-returns-in-TAbort : goal.add_of_stmt-returns-in-TAbort
add_of_stmt-returns-in-TAbort t c = after_none c.args.refs.now (literals c.args.s.now) (literals-TAbort c.args.s.now c.in-TAbort.is)
