use Rattle.std.proofs.Common.{◌≡◌, ◌-◌, ◌≤◌, ◌<◌, ap, ◌∙◌, rules, arith, subst}
use Rattle.ode_types.specs.Indexed.{AreNumbered}
use Rattle.std.specs.List.{slice_get}
use Rattle.ode_types.proofs.Places.{numbered-at, none-numbered-0}
use Rattle.ode_types.proofs.classes.Classes.class.Goals as goal

pub returns-in-Some : goal.returns-in-Some
returns-in-Some c =
    let list : c.as_slice-classes.result.now ≡ c.args.self.now = search rules in
    let low : 1 ≤ c.args.number = omega (arith, c.in-Some.ensures) in
    let at : c.in-Some.place ≡ c.args.number - 1 = omega (arith, c.in-Some.ensures) in
    c.at.ensures ∙ ap (λ cs. slice_get cs c.in-Some.place) list ∙ numbered-at c.args.self.now c.args.number c.in-Some.place (subst AreNumbered c.self.view_is c.self.invariant.0) low at

pub returns-in-None : goal.returns-in-None
returns-in-None c =
    let low : c.args.number < 1 = omega (arith, c.in-None.ensures) in
    none-numbered-0 c.args.self.now c.args.number (subst AreNumbered c.self.view_is c.self.invariant.0) low
