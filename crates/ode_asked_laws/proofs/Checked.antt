-- A check of a comparison keeps its numbers.
use Rattle.std.proofs.Common.{◌≡◌, ℕ, List, Ok, true, ap, sym, ◌∙◌}
use Rattle.std.specs.Prelude.{codes}
use Rattle.ode_asked_laws.proofs.EventNumbers.{event_kept}
use Rattle.ode_types.proofs.CheckedClasses.{bind-ok}
use Rattle.ode_types.specs.Checks.{Check, ◌>>=◌, ◌>>◌, found}
use Rattle.ode_types.specs.Comparing.{bare, both_listed, check_compared, events_checked}
use Rattle.ode_types.specs.Declaring.{knows_params}
use Rattle.ode_types.specs.Events.{listed}
use Rattle.ode_types.specs.Families.{class_named}
use Rattle.ode_types.specs.Scopes.{Scope, member_scope}
use Rattle.ode_value.specs.Numbers.{has_numbers}
use Rattle.ode_value.specs.declared.binding.Param.{Param}
use Rattle.ode_value.specs.declared.class.Class.{Class}
use Rattle.ode_value.specs.declared.event.EventExpr.{EventExpr}
use Rattle.ode_value.specs.declared.reason.CheckError.TheVariants.{UnknownName}
use Rattle.ode_value.specs.declared.statement.Sort.TheVariants as sort

same_pair : (a b g h : EventExpr) → ◌≡◌ {A = Check (EventExpr × EventExpr)} (Ok (a, b)) (Ok (g, h)) → (a ≡ g) × (b ≡ h)
same_pair a b g h is =
    let both : (a, b) ≡ (g, h) = cc (is) in
    (ap (λ (p : EventExpr × EventExpr). p.0) both, ap (λ (p : EventExpr × EventExpr). p.1) both)

both_kept : (scope : Scope) (e f g h : EventExpr) → both_listed e f scope ≡ Ok (g, h) → has_numbers e ≡ true → has_numbers f ≡ true → (has_numbers g ≡ true) × (has_numbers h ≡ true)
both_kept scope e f g h is first second =
    let a = bind-ok (listed e scope) (λ x. listed f scope >>= (λ y. Ok (x, y))) (g, h) is in
    let b = bind-ok (listed f scope) (λ y. Ok (a.0, y)) (g, h) a.2 in
    let same = same_pair a.0 b.0 g h b.2 in
    (ap has_numbers (sym same.0) ∙ event_kept e scope a.0 a.1 ∙ first, ap has_numbers (sym same.1) ∙ event_kept f scope b.0 b.1 ∙ second)

pub checked_numbers : (classes : List Class) (name : List ℕ) (params : List Param) (e f g h : EventExpr) → check_compared classes name params e f ≡ Ok (g, h)
    → has_numbers e ≡ true → has_numbers f ≡ true → (has_numbers g ≡ true) × (has_numbers h ≡ true)
unfolding check_compared events_checked
checked_numbers classes name params e f g h is first second =
    let class = bind-ok (found (UnknownName name) (class_named classes name)) (λ c. knows_params classes (bare name) params >> events_checked classes c params e f) (g, h) is in
    let fits = bind-ok (knows_params classes (bare name) params) (λ _. events_checked classes class.0 params e f) (g, h) class.2 in
    both_kept (member_scope classes class.0 (codes "same") params sort.Void) e f g h fits.2 first second
