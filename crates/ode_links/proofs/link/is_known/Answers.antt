use Rattle.std.proofs.Common.{rules, ◌≡◌, ◌<◌, arith}
use Rattle.ode_links.proofs.LinkLaws.{field_known, known_by, lit_known}
use Rattle.ode_links.proofs.link.is_known.Goals as goal
use Rattle.ode_links.specs.Linking.{field_of_local}
use Rattle.ode_value.specs.declared.statement.Expr.TheVariants as expr

pub returns-in-Lit : goal.returns-in-Lit
returns-in-Lit c = λ yes.
    let same : c.args.e.now ≡ expr.Lit c.in-Lit.field-0 = search rules in
    known_by c.args.count c.args.e.now (expr.Lit c.in-Lit.field-0) same (lit_known c.args.count c.in-Lit.field-0)

pub returns-in-Local : goal.returns-in-Local
returns-in-Local c = λ yes.
    let variable = c.in-Local.found in
    let place = c.in-Slot.field-1 in
    let same : c.args.e.now ≡ field_of_local variable place = search rules in
    let lt : variable < c.args.count = search (rules, arith) in
    known_by c.args.count c.args.e.now (field_of_local variable place) same (field_known c.args.count variable place lt)
