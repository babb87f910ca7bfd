-- The leaves of each form of expression, and its masks on composite events, behind others, as rules for code.
use Rattle.std.proofs.Common.{◌≡◌, ℕ, [], ◌∷◌, ◌++◌, Option, append-nil, append_assoc}
use Rattle.ode_value.specs.declared.event.EventExpr.{EventExpr, the_lemmas}
use Rattle.ode_value.specs.declared.event.EventExpr.TheVariants as v
use Rattle.ode_value.specs.declared.event.Kind.{Kind}
use Rattle.ode_value.specs.declared.statement.Expr.{Expr}
use Rattle.ode_value.specs.Marks.{composite_masks, leaves}
use Rattle.ode_value.proofs.LeafLaws.{leaves-at, masks-at}

pub of-Leaf : (kind : Kind) (mask : Option Expr) → leaves (v.Leaf kind mask) ≡ (kind, mask) ∷ []
of-Leaf kind mask = leaves-at _ _ (v.outs-Leaf kind mask)

pub of-Any : leaves v.Any ≡ []
of-Any = leaves-at _ _ v.outs-Any

pub of-First : leaves v.First ≡ []
of-First = leaves-at _ _ v.outs-First

pub of-Not : (e : EventExpr) → leaves (v.Not e) ≡ leaves e
of-Not e = leaves-at _ _ (v.outs-Not e)

pub of-And : (e f : EventExpr) → leaves (v.And e f) ≡ leaves e ++ leaves f
of-And e f = leaves-at _ _ (v.outs-And e f)

pub of-Or : (e f : EventExpr) → leaves (v.Or e f) ≡ leaves e ++ leaves f
of-Or e f = leaves-at _ _ (v.outs-Or e f)

pub of-Relative : (e f : EventExpr) → leaves (v.Relative e f) ≡ leaves e ++ leaves f
of-Relative e f = leaves-at _ _ (v.outs-Relative e f)

pub of-RelPlus : (e : EventExpr) → leaves (v.RelPlus e) ≡ leaves e
of-RelPlus e = leaves-at _ _ (v.outs-RelPlus e)

pub of-Prior : (e f : EventExpr) → leaves (v.Prior e f) ≡ leaves e ++ leaves f
of-Prior e f = leaves-at _ _ (v.outs-Prior e f)

pub of-Sequence : (e f : EventExpr) → leaves (v.Sequence e f) ≡ leaves e ++ leaves f
of-Sequence e f = leaves-at _ _ (v.outs-Sequence e f)

pub of-Pipe : (e f : EventExpr) → leaves (v.Pipe e f) ≡ leaves e ++ leaves f
of-Pipe e f = leaves-at _ _ (v.outs-Pipe e f)

pub of-Choose : (n : ℕ) (e : EventExpr) → leaves (v.Choose n e) ≡ leaves e
of-Choose n e = leaves-at _ _ (v.outs-Choose n e)

pub of-Every : (n : ℕ) (e : EventExpr) → leaves (v.Every n e) ≡ leaves e
of-Every n e = leaves-at _ _ (v.outs-Every n e)

pub of-Fa : (e f g : EventExpr) → leaves (v.Fa e f g) ≡ leaves e ++ leaves f ++ leaves g
of-Fa e f g = leaves-at _ _ (v.outs-Fa e f g)

pub of-FaAbs : (e f g : EventExpr) → leaves (v.FaAbs e f g) ≡ leaves e ++ leaves f ++ leaves g
of-FaAbs e f g = leaves-at _ _ (v.outs-FaAbs e f g)

pub of-Masked : (e : EventExpr) (mask : Expr) → leaves (v.Masked e mask) ≡ leaves e
of-Masked e mask = leaves-at _ _ (v.outs-Masked e mask)

pub ruleset listings = (the_lemmas, append-nil, append_assoc, of-Leaf, of-Any, of-First, of-Not, of-And, of-Or, of-Relative, of-RelPlus, of-Prior, of-Sequence, of-Pipe, of-Choose, of-Every, of-Fa, of-FaAbs, of-Masked)

pub masks-Leaf : (kind : Kind) (mask : Option Expr) → composite_masks (v.Leaf kind mask) ≡ []
masks-Leaf kind mask = masks-at _ _ (v.outs-Leaf kind mask)

pub masks-Any : composite_masks v.Any ≡ []
masks-Any = masks-at _ _ v.outs-Any

pub masks-First : composite_masks v.First ≡ []
masks-First = masks-at _ _ v.outs-First

pub masks-Not : (e : EventExpr) → composite_masks (v.Not e) ≡ composite_masks e
masks-Not e = masks-at _ _ (v.outs-Not e)

pub masks-And : (e f : EventExpr) → composite_masks (v.And e f) ≡ composite_masks e ++ composite_masks f
masks-And e f = masks-at _ _ (v.outs-And e f)

pub masks-Or : (e f : EventExpr) → composite_masks (v.Or e f) ≡ composite_masks e ++ composite_masks f
masks-Or e f = masks-at _ _ (v.outs-Or e f)

pub masks-Relative : (e f : EventExpr) → composite_masks (v.Relative e f) ≡ composite_masks e ++ composite_masks f
masks-Relative e f = masks-at _ _ (v.outs-Relative e f)

pub masks-RelPlus : (e : EventExpr) → composite_masks (v.RelPlus e) ≡ composite_masks e
masks-RelPlus e = masks-at _ _ (v.outs-RelPlus e)

pub masks-Prior : (e f : EventExpr) → composite_masks (v.Prior e f) ≡ composite_masks e ++ composite_masks f
masks-Prior e f = masks-at _ _ (v.outs-Prior e f)

pub masks-Sequence : (e f : EventExpr) → composite_masks (v.Sequence e f) ≡ composite_masks e ++ composite_masks f
masks-Sequence e f = masks-at _ _ (v.outs-Sequence e f)

pub masks-Pipe : (e f : EventExpr) → composite_masks (v.Pipe e f) ≡ composite_masks e ++ composite_masks f
masks-Pipe e f = masks-at _ _ (v.outs-Pipe e f)

pub masks-Choose : (n : ℕ) (e : EventExpr) → composite_masks (v.Choose n e) ≡ composite_masks e
masks-Choose n e = masks-at _ _ (v.outs-Choose n e)

pub masks-Every : (n : ℕ) (e : EventExpr) → composite_masks (v.Every n e) ≡ composite_masks e
masks-Every n e = masks-at _ _ (v.outs-Every n e)

pub masks-Fa : (e f g : EventExpr) → composite_masks (v.Fa e f g) ≡ composite_masks e ++ composite_masks f ++ composite_masks g
masks-Fa e f g = masks-at _ _ (v.outs-Fa e f g)

pub masks-FaAbs : (e f g : EventExpr) → composite_masks (v.FaAbs e f g) ≡ composite_masks e ++ composite_masks f ++ composite_masks g
masks-FaAbs e f g = masks-at _ _ (v.outs-FaAbs e f g)

pub masks-Masked : (e : EventExpr) (mask : Expr) → composite_masks (v.Masked e mask) ≡ composite_masks e ++ mask ∷ []
masks-Masked e mask = masks-at _ _ (v.outs-Masked e mask)

pub ruleset mask_listings = (the_lemmas, append-nil, append_assoc, masks-Leaf, masks-Any, masks-First, masks-Not, masks-And, masks-Or, masks-Relative, masks-RelPlus, masks-Prior, masks-Sequence, masks-Pipe, masks-Choose, masks-Every, masks-Fa, masks-FaAbs, masks-Masked)
