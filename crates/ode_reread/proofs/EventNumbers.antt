-- Event expressions each of whose numbers of a `choose` or an `every` is in its range, by one level.
use Rattle.std.proofs.Common.{◌≡◌, ◌≤◌, ◌<◌, ℕ, Bool, true, ◌&&◌, Option, arith, sym, ◌∙◌, ap}
use Rattle.std.proofs.lemmas.Bool.Decides.{nat_tests}
use Rattle.ode_value.specs.Limits.{choose_limit}
use Rattle.ode_value.specs.Numbers.{has_numbers, in_range, numbers_of}
use Rattle.ode_value.specs.declared.event.EventExpr.{EventExpr, fold-roll-EventExpr, map-EventExpr, roll-EventExpr}
use Rattle.ode_value.specs.declared.event.EventExpr.TheOpen as shape
use Rattle.ode_value.specs.declared.event.EventExpr.TheVariants as event
use Rattle.ode_value.specs.declared.event.Kind.{Kind}
use Rattle.ode_value.specs.declared.statement.Expr.{Expr}

abbrev pub IsNumbered : EventExpr → Type 0
IsNumbered e = has_numbers e ≡ true

by_level : (d : shape.EventExpr-F EventExpr) → has_numbers (roll-EventExpr d) ≡ numbers_of (map-EventExpr EventExpr Bool has_numbers d)
unfolding has_numbers
by_level d = fold-roll-EventExpr Bool numbers_of d

ranged : (n : ℕ) → 0 < n → n ≤ choose_limit → in_range n ≡ true
ranged n some small = grind (arith, nat_tests)

pub leaf_numbered : (k : Kind) (mask : Option Expr) → IsNumbered (event.Leaf k mask)
leaf_numbered k mask = ap has_numbers (sym (event.rolls-Leaf k mask)) ∙ by_level (shape.Leaf k mask)

pub any_numbered : IsNumbered event.Any
any_numbered = ap has_numbers (sym event.rolls-Any) ∙ by_level shape.Any

pub first_numbered : IsNumbered event.First
first_numbered = ap has_numbers (sym event.rolls-First) ∙ by_level shape.First

pub not_numbered : (e : EventExpr) → IsNumbered e → IsNumbered (event.Not e)
not_numbered e is = ap has_numbers (sym (event.rolls-Not e)) ∙ (by_level (shape.Not e) ∙ is)

pub and_numbered : (e f : EventExpr) → IsNumbered e → IsNumbered f → IsNumbered (event.And e f)
and_numbered e f is are = ap has_numbers (sym (event.rolls-And e f)) ∙ (by_level (shape.And e f) ∙ (λ i. is i && are i))

pub or_numbered : (e f : EventExpr) → IsNumbered e → IsNumbered f → IsNumbered (event.Or e f)
or_numbered e f is are = ap has_numbers (sym (event.rolls-Or e f)) ∙ (by_level (shape.Or e f) ∙ (λ i. is i && are i))

pub relative_numbered : (e f : EventExpr) → IsNumbered e → IsNumbered f → IsNumbered (event.Relative e f)
relative_numbered e f is are = ap has_numbers (sym (event.rolls-Relative e f)) ∙ (by_level (shape.Relative e f) ∙ (λ i. is i && are i))

pub prior_numbered : (e f : EventExpr) → IsNumbered e → IsNumbered f → IsNumbered (event.Prior e f)
prior_numbered e f is are = ap has_numbers (sym (event.rolls-Prior e f)) ∙ (by_level (shape.Prior e f) ∙ (λ i. is i && are i))

pub sequence_numbered : (e f : EventExpr) → IsNumbered e → IsNumbered f → IsNumbered (event.Sequence e f)
sequence_numbered e f is are = ap has_numbers (sym (event.rolls-Sequence e f)) ∙ (by_level (shape.Sequence e f) ∙ (λ i. is i && are i))

pub choose_numbered : (n : ℕ) (e : EventExpr) → 0 < n → n ≤ choose_limit → IsNumbered e → IsNumbered (event.Choose n e)
choose_numbered n e some small is =
    ap has_numbers (sym (event.rolls-Choose n e)) ∙ (by_level (shape.Choose n e) ∙ (λ i. ranged n some small i && is i))

pub every_numbered : (n : ℕ) (e : EventExpr) → 0 < n → n ≤ choose_limit → IsNumbered e → IsNumbered (event.Every n e)
every_numbered n e some small is =
    ap has_numbers (sym (event.rolls-Every n e)) ∙ (by_level (shape.Every n e) ∙ (λ i. ranged n some small i && is i))

pub fa_numbered : (e f g : EventExpr) → IsNumbered e → IsNumbered f → IsNumbered g → IsNumbered (event.Fa e f g)
fa_numbered e f g is are too = ap has_numbers (sym (event.rolls-Fa e f g)) ∙ (by_level (shape.Fa e f g) ∙ (λ i. is i && (are i && too i)))

pub faabs_numbered : (e f g : EventExpr) → IsNumbered e → IsNumbered f → IsNumbered g → IsNumbered (event.FaAbs e f g)
faabs_numbered e f g is are too = ap has_numbers (sym (event.rolls-FaAbs e f g)) ∙ (by_level (shape.FaAbs e f g) ∙ (λ i. is i && (are i && too i)))

pub relplus_numbered : (e : EventExpr) → IsNumbered e → IsNumbered (event.RelPlus e)
relplus_numbered e is = ap has_numbers (sym (event.rolls-RelPlus e)) ∙ (by_level (shape.RelPlus e) ∙ is)

pub pipe_numbered : (e f : EventExpr) → IsNumbered e → IsNumbered f → IsNumbered (event.Pipe e f)
pipe_numbered e f is are = ap has_numbers (sym (event.rolls-Pipe e f)) ∙ (by_level (shape.Pipe e f) ∙ (λ i. is i && are i))

pub masked_numbered : (e : EventExpr) (x : Expr) → IsNumbered e → IsNumbered (event.Masked e x)
masked_numbered e x is = ap has_numbers (sym (event.rolls-Masked e x)) ∙ (by_level (shape.Masked e x) ∙ is)
