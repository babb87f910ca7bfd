-- Places of a class that gets fields. Those from the place of the new ones on are further back, and plain expressions name them so.
use Rattle.std.specs.Prelude.{ℕ, zero, suc, ◌+◌, List, option_map}
use Rattle.ode_value.specs.declared.event.EventExpr.{EventExpr, fold-EventExpr, roll-EventExpr}
use Rattle.ode_value.specs.declared.event.EventExpr.TheOpen as event
use Rattle.ode_value.specs.declared.statement.Expr.{Expr, fold-Expr, roll-Expr}
use Rattle.ode_value.specs.declared.statement.Expr.TheOpen as expr
use Rattle.ode_value.specs.declared.value.Value.{Value}
use Rattle.ode_value.specs.Fields.{put_in}
use Rattle.ode_value.specs.Masks.{Slots}

-- where a place comes to, with so many more at a place
abbrev pub moved : (at more place : ℕ) → ℕ
moved zero more place = more + place
moved (suc at) more zero = zero
moved (suc at) more (suc place) = suc (moved at more place)

-- expressions, by one level
abbrev pub moved_of : ℕ → ℕ → expr.Expr-F Expr → expr.Expr-F Expr
moved_of at more (expr.Own place) = expr.Own (moved at more place)
moved_of at more d = d

unfoldable pub moved_expr : ℕ → ℕ → Expr → Expr
moved_expr at more = fold-Expr Expr (λ d. roll-Expr (moved_of at more d))

-- what a plain expression reads, with new values at a place
abbrev pub moved_slots : ℕ → List Value → Slots → Slots
moved_slots at new slots = record { locals = slots.locals; own = put_in at new slots.own }

-- an event with other masks, by one level
abbrev pub with_masks_of : (Expr → Expr) → event.EventExpr-F EventExpr → event.EventExpr-F EventExpr
with_masks_of f (event.Leaf kind mask) = event.Leaf kind (option_map f mask)
with_masks_of f (event.Masked e mask) = event.Masked e (f mask)
with_masks_of f d = d

unfoldable pub with_masks : (Expr → Expr) → EventExpr → EventExpr
with_masks f = fold-EventExpr EventExpr (λ d. roll-EventExpr (with_masks_of f d))

-- an event whose masks are moved
abbrev pub moved_event : ℕ → ℕ → EventExpr → EventExpr
moved_event at more = with_masks (moved_expr at more)
