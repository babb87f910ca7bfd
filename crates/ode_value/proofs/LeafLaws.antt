-- The leaves of an expression, and its masks on composite events, by a known form of it, as clauses name it.
use Rattle.std.proofs.Common.{◌≡◌, Bool, List}
use Rattle.ode_value.specs.declared.event.EventExpr.{EventExpr, fold_out-EventExpr, map-EventExpr, out-EventExpr, the_lemmas}
use Rattle.ode_value.specs.declared.event.EventExpr.TheOpen.{EventExpr-F}
use Rattle.ode_value.specs.declared.statement.Expr.{Expr}
use Rattle.ode_value.specs.Marks.{Leaf, composite_masks, composite_masks_of, leaves, leaves_of}
use Rattle.ode_value.specs.Numbers.{numbers_of, has_numbers}
use Rattle.ode_value.proofs.PointLaws.{fold-at}

pub leaves-at : (e : EventExpr) (level : EventExpr-F EventExpr) → out-EventExpr e ≡ level → leaves e ≡ leaves_of (map-EventExpr EventExpr (List Leaf) leaves level)
unfolding leaves
leaves-at e level is = fold-at leaves_of e level is

pub masks-at : (e : EventExpr) (level : EventExpr-F EventExpr) → out-EventExpr e ≡ level → composite_masks e ≡ composite_masks_of (map-EventExpr EventExpr (List Expr) composite_masks level)
unfolding composite_masks
masks-at e level is = fold-at composite_masks_of e level is

-- the leaves, the masks, and the condition on the numbers, by one level of the expression
pub leaves_out : (e : EventExpr) → leaves e ≡ leaves_of (map-EventExpr EventExpr (List Leaf) leaves (out-EventExpr e))
unfolding leaves
leaves_out e = fold_out-EventExpr (List Leaf) leaves_of e

pub masks_out : (e : EventExpr) → composite_masks e ≡ composite_masks_of (map-EventExpr EventExpr (List Expr) composite_masks (out-EventExpr e))
unfolding composite_masks
masks_out e = fold_out-EventExpr (List Expr) composite_masks_of e

pub numbers_out : (e : EventExpr) → has_numbers e ≡ numbers_of (map-EventExpr EventExpr Bool has_numbers (out-EventExpr e))
unfolding has_numbers
numbers_out e = fold_out-EventExpr Bool numbers_of e

pub ruleset forms = (the_lemmas, leaves_out, masks_out, numbers_out)
