use Rattle.std.proofs.Common.{◌≡◌, ℕ, ◌-◌, suc, reverse, take, ap, sym, ◌∙◌, subst, rules, arith}
use Rattle.std.specs.List.{slice_get}
use Rattle.std.specs.Option.{option_copied}
use Rattle.ode_value.specs.declared.class.Class.{Class}
use Rattle.ode_types.specs.Families.{upward}
use Rattle.ode_types.specs.Indexed.{AreNumbered}
use Rattle.ode_types.proofs.LineLaws.{upward-zero, upward-above, upward-from}
use Rattle.ode_types.proofs.classes.Classes.among.Goals as goal
use Rattle.std.proofs.Common.{List}

pub returns-then-number-eq0-clause-line : goal.returns-then-number-eq0-clause-line
returns-then-number-eq0-clause-line c =
    ap (λ (n : ℕ). upward n (reverse (take c.args.before c.args.self.now))) c.if-number-eq0.true
    ∙ upward-zero c.args.self.now (subst AreNumbered c.self.view_is c.self.invariant.0) c.args.before

pub returns-then-place-before-clause-line : goal.returns-then-place-before-clause-line
returns-then-place-before-clause-line c =
    let list : c.as_slice-classes.result.now ≡ c.args.self.now = search rules in
    let at : slice_get c.args.self.now (c.args.number - 1) ≡ option_copied c.at.result = sym (c.at.ensures ∙ ap (λ (cs : List Class). slice_get cs (c.args.number - 1)) list) in
    let is : c.args.number ≡ suc (c.args.number - 1) = omega (arith, c.if-number-eq0.false) in
    ap (λ (n : ℕ). upward n (reverse (take c.args.before c.args.self.now))) is
    ∙ upward-from c.args.self.now (subst AreNumbered c.self.view_is c.self.invariant.0) c.args.before (c.args.number - 1) (option_copied c.at.result) at c.if-place-before.true

pub returns-else-place-before-clause-line : goal.returns-else-place-before-clause-line
returns-else-place-before-clause-line c =
    let is : c.args.number ≡ suc (c.args.number - 1) = omega (arith, c.if-number-eq0.false) in
    ap (λ (n : ℕ). upward n (reverse (take c.args.before c.args.self.now))) is
    ∙ upward-above c.args.self.now (subst AreNumbered c.self.view_is c.self.invariant.0) c.args.before (c.args.number - 1) c.if-place-before.false
