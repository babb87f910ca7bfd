-- A fold of an expression, and so its points, by a known form of the expression: one lemma for all forms, to which a use adds
-- what the form's level is, as `outs-And e f`.
use Rattle.std.proofs.Common.{◌≡◌, ap, ◌∙◌}
use Rattle.ode_value.specs.declared.event.EventExpr.{EventExpr, fold-EventExpr, fold_out-EventExpr, map-EventExpr, out-EventExpr}
use Rattle.ode_value.specs.declared.event.EventExpr.TheOpen.{EventExpr-F}
use Rattle.ode_value.specs.Points.{Points, points_of, points}

pub fold-at : {A : Type 0} (f : EventExpr-F A → A) (e : EventExpr) (level : EventExpr-F EventExpr) → out-EventExpr e ≡ level → fold-EventExpr A f e ≡ f (map-EventExpr EventExpr A (fold-EventExpr A f) level)
fold-at {A} f e level is = fold_out-EventExpr A f e ∙ ap (λ l. f (map-EventExpr EventExpr A (fold-EventExpr A f) l)) is

pub points-at : (e : EventExpr) (level : EventExpr-F EventExpr) → out-EventExpr e ≡ level → points e ≡ points_of (map-EventExpr EventExpr Points points level)
unfolding points
points-at e level is = fold-at points_of e level is
