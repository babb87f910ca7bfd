-- Which conditions of an event expression hold at a point.
use Rattle.std.specs.Prelude.{Bool, true, false, ◌&&◌, List, [], ◌∷◌, ◌++◌, map, Option, Some, None}
use Rattle.std.specs.List.{list_any}
use Rattle.ode_value.specs.declared.event.EventExpr.{EventExpr, fold-EventExpr}
use Rattle.ode_value.specs.declared.event.EventExpr.TheOpen as event
use Rattle.ode_value.specs.declared.event.Kind.{Kind}
use Rattle.ode_value.specs.declared.event.Point.{Point}
use Rattle.ode_value.specs.declared.statement.Expr.{Expr}
use Rattle.ode_value.specs.declared.value.Value.{Value}
use Rattle.ode_value.specs.Views.{History}
use Rattle.ode_value.specs.Masks.{mask_holds, composite_holds}
use Rattle.ode_value.specs.Same.{same_kind, same_expr}

-- a leaf: a kind, perhaps with a mask
abbrev pub Leaf : Type 0
Leaf = Kind × Option Expr

abbrev pub leaves_of : event.EventExpr-F (List Leaf) → List Leaf
leaves_of (event.Leaf kind mask) = (kind, mask) ∷ []
leaves_of event.Any = []
leaves_of event.First = []
leaves_of (event.Not e) = e
leaves_of (event.And e f) = e ++ f
leaves_of (event.Or e f) = e ++ f
leaves_of (event.Relative e f) = e ++ f
leaves_of (event.RelPlus e) = e
leaves_of (event.Prior e f) = e ++ f
leaves_of (event.Sequence e f) = e ++ f
leaves_of (event.Pipe e f) = e ++ f
leaves_of (event.Choose n e) = e
leaves_of (event.Every n e) = e
leaves_of (event.Fa e f g) = e ++ f ++ g
leaves_of (event.FaAbs e f g) = e ++ f ++ g
leaves_of (event.Masked e mask) = e

-- the leaves, in the order of the text
unfoldable pub leaves : EventExpr → List Leaf
leaves = fold-EventExpr (List Leaf) leaves_of

abbrev pub composite_masks_of : event.EventExpr-F (List Expr) → List Expr
composite_masks_of (event.Leaf kind mask) = []
composite_masks_of event.Any = []
composite_masks_of event.First = []
composite_masks_of (event.Not e) = e
composite_masks_of (event.And e f) = e ++ f
composite_masks_of (event.Or e f) = e ++ f
composite_masks_of (event.Relative e f) = e ++ f
composite_masks_of (event.RelPlus e) = e
composite_masks_of (event.Prior e f) = e ++ f
composite_masks_of (event.Sequence e f) = e ++ f
composite_masks_of (event.Pipe e f) = e ++ f
composite_masks_of (event.Choose n e) = e
composite_masks_of (event.Every n e) = e
composite_masks_of (event.Fa e f g) = e ++ f ++ g
composite_masks_of (event.FaAbs e f g) = e ++ f ++ g
composite_masks_of (event.Masked e mask) = e ++ mask ∷ []

-- the masks on composite events, in the order of the text
unfoldable pub composite_masks : EventExpr → List Expr
composite_masks = fold-EventExpr (List Expr) composite_masks_of

-- the leaves and the masks on composite events
pub record Conditions : Type 0 where
  pub leaves : List Leaf
  pub masks : List Expr

abbrev pub conditions : EventExpr → Conditions
conditions e = record { leaves = leaves e; masks = composite_masks e }

-- what holds or doesn't at a point: a leaf, or a mask on a composite event
pub data Condition : Type 0 where
  OfLeaf : (kind : Kind) (mask : Option Expr) → Condition
  OfEvent : (mask : Expr) → Condition

abbrev pub same_mask : Option Expr → Option Expr → Bool
same_mask None None = true
same_mask (Some x) (Some y) = same_expr x y
same_mask _ _ = false

-- a set of conditions
abbrev pub Mark : Type 0
Mark = Condition → Bool

-- the set of these conditions
abbrev pub among : Conditions → Mark
among cs (OfLeaf kind mask) = list_any (λ (l : Leaf). same_kind l.0 kind && same_mask l.1 mask) cs.leaves
among cs (OfEvent mask) = list_any (λ x. same_expr x mask) cs.masks

abbrev pub no_mark : Mark
no_mark c = false

-- for each of these leaves, and then for each of these masks, whether it is in the set
abbrev pub spelled_by : Conditions → Mark → List Bool
spelled_by cs m = map (λ (l : Leaf). m (OfLeaf l.0 l.1)) cs.leaves ++ map (λ x. m (OfEvent x)) cs.masks

abbrev pub spelled : EventExpr → Mark → List Bool
spelled e = spelled_by (conditions e)

-- a leaf holds at a point of its kind where its mask does
abbrev pub holds_at : List Value → Point → Mark
holds_at params p (OfLeaf kind mask) = same_kind p.kind kind && mask_holds mask params p
holds_at params p (OfEvent mask) = composite_holds mask params p.fields

-- the conditions of an expression that hold at a point, with the arguments of the trigger
abbrev pub mark_of : Conditions → List Value → Point → Mark
mark_of cs params p c = among cs c && holds_at params p c

abbrev pub mark : EventExpr → List Value → Point → Mark
mark e = mark_of (conditions e)

-- the same for each point of a history
abbrev pub marks : EventExpr → List Value → History → List Mark
marks e params history = map (mark e params) history
