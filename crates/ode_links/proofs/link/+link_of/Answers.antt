use Rattle.std.proofs.Common.{◌≡◌, arith}
use Rattle.ode_links.proofs.LinkLaws.{each_found, equal_link, left_link, link_by, right_link, turned_link}
use Rattle.ode_links.proofs.link.+link_of.Goals as goal
use Rattle.ode_links.specs.Linking.{IsKnown, IsLink, field_of_local}
use Rattle.ode_links.specs.declared.link.Link.{Link}
use Rattle.ode_value.specs.declared.operator.BinOp.TheVariants.{And, Eq}
use Rattle.ode_value.specs.declared.statement.Expr.{the_lemmas as the_exprs}
use Rattle.ode_value.specs.declared.statement.Expr.TheVariants as expr

pub returns-in-Some : goal.returns-in-Some
returns-in-Some t c =
    let left = c.get.result.now in
    let right = c.in-Binary-And-default-default.right in
    let link = c.in-Some.link in
    let same : c.args.test.now ≡ expr.Binary And left right = grind (arith, the_exprs) in
    let found : IsLink left c.args.variable link = rw c.in-Some.is at c.in_ok-link-in-Binary-And-default-default.ensures in
    link_by c.args.test.now (expr.Binary And left right) c.args.variable link same (left_link left right c.args.variable link found)

pub returns-in-None : goal.returns-in-None
returns-in-None t c =
    let left = c.get.result.now in
    let right = c.get-in-None.result.now in
    let same : c.args.test.now ≡ expr.Binary And left right = grind (arith, the_exprs) in
    each_found (IsLink right c.args.variable) (IsLink c.args.test.now c.args.variable) c.link_of-in-None.result
    (λ link found. link_by c.args.test.now (expr.Binary And left right) c.args.variable link same (right_link left right c.args.variable link found)) c.link_of-in-None.ensures

pub returns-in-Some-2 : goal.returns-in-Some-2
returns-in-Some-2 t c =
    let left = c.get-in-Binary-Eq-default-default.result.now in
    let right = c.get-in-Binary-Eq-default-default-2.result.now in
    let link = c.in-Some-2.link in
    let same : c.args.test.now ≡ expr.Binary Eq left right = grind (arith, the_exprs) in
    let found : (left ≡ field_of_local c.args.variable link.place) × (link.other ≡ right) × IsKnown c.args.variable right = rw c.in-Some-2.is at c.in_ok-link-in-Binary-Eq-default-default.ensures in
    link_by c.args.test.now (expr.Binary Eq left right) c.args.variable link same (equal_link left right c.args.variable link found.0 found.1 found.2)

pub returns-in-None-2 : goal.returns-in-None-2
returns-in-None-2 t c =
    let right = c.get-in-None-2.result.now in
    let left = c.get-in-None-2-2.result.now in
    let same : c.args.test.now ≡ expr.Binary Eq left right = grind (arith, the_exprs) in
    each_found (λ (link : Link). (right ≡ field_of_local c.args.variable link.place) × (link.other ≡ left) × IsKnown c.args.variable left)
    (IsLink c.args.test.now c.args.variable) c.link_between-in-None-2.result
    (λ link found. link_by c.args.test.now (expr.Binary Eq left right) c.args.variable link same (turned_link left right c.args.variable link found.0 found.1 found.2)) c.link_between-in-None-2.ensures
