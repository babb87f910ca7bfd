-- What an expression of an example comes to, read off its form, so that the rest computes.
use Rattle.std.proofs.Common.{◌≡◌, ℕ, [], ◌∷◌, ◌++◌, ◌∙◌}
use Rattle.std.specs.Prelude.{Option}
use Rattle.ode_value.specs.declared.event.EventExpr.{EventExpr}
use Rattle.ode_value.specs.declared.event.EventExpr.TheVariants as v
use Rattle.ode_value.specs.declared.event.EventExpr.TheOpen as o
use Rattle.ode_value.specs.declared.event.Kind.{Kind}
use Rattle.ode_value.specs.declared.statement.Expr.{Expr}
use Rattle.ode_value.specs.Examples.{found, found_by, symbol_table, symbol_table_of}
use Rattle.ode_value.specs.Views.{History}
use Rattle.ode_value.specs.Marks.{Conditions, conditions, leaves, composite_masks}
use Rattle.ode_value.specs.Points.{Points, points, points_of}
use Rattle.ode_value.proofs.LeafLaws.{leaves-at, masks-at}
use Rattle.ode_value.proofs.PointLaws.{points-at}

-- an expression's points and its conditions
pub record Read (e : EventExpr) (p : Points) (cs : Conditions) : Type 0 where
  pub points : points e ≡ p
  pub leaves : leaves e ≡ cs.leaves
  pub masks : composite_masks e ≡ cs.masks

-- the conditions of two parts
abbrev pub both : Conditions → Conditions → Conditions
both cs ds = record { leaves = cs.leaves ++ ds.leaves; masks = cs.masks ++ ds.masks }

abbrev pub nothing : Conditions
nothing = record { leaves = []; masks = [] }

pub read-Leaf : (k : Kind) (x : Option Expr) → Read (v.Leaf k x) (points_of (o.Leaf k x)) (record { leaves = (k, x) ∷ []; masks = [] })
read-Leaf k x = record { points = points-at _ _ (v.outs-Leaf k x); leaves = leaves-at _ _ (v.outs-Leaf k x); masks = masks-at _ _ (v.outs-Leaf k x) }

pub read-Any : Read v.Any (points_of o.Any) nothing
read-Any = record { points = points-at _ _ v.outs-Any; leaves = leaves-at _ _ v.outs-Any; masks = masks-at _ _ v.outs-Any }

pub read-First : Read v.First (points_of o.First) nothing
read-First = record { points = points-at _ _ v.outs-First; leaves = leaves-at _ _ v.outs-First; masks = masks-at _ _ v.outs-First }

pub read-Choose : (n : ℕ) (e : EventExpr) (p : Points) (cs : Conditions) → Read e p cs → Read (v.Choose n e) (points_of (o.Choose n p)) cs
read-Choose n e p cs r = record {
  points = points-at _ _ (v.outs-Choose n e) ∙ (λ i. points_of (o.Choose n (r.points i)));
  leaves = leaves-at _ _ (v.outs-Choose n e) ∙ r.leaves;
  masks = masks-at _ _ (v.outs-Choose n e) ∙ r.masks;
}

pub read-RelPlus : (e : EventExpr) (p : Points) (cs : Conditions) → Read e p cs → Read (v.RelPlus e) (points_of (o.RelPlus p)) cs
read-RelPlus e p cs r = record {
  points = points-at _ _ (v.outs-RelPlus e) ∙ (λ i. points_of (o.RelPlus (r.points i)));
  leaves = leaves-at _ _ (v.outs-RelPlus e) ∙ r.leaves;
  masks = masks-at _ _ (v.outs-RelPlus e) ∙ r.masks;
}

pub read-Masked : (e : EventExpr) (x : Expr) (p : Points) (cs : Conditions) → Read e p cs → Read (v.Masked e x) (points_of (o.Masked p x)) (record cs { masks = cs.masks ++ x ∷ [] })
read-Masked e x p cs r = record {
  points = points-at _ _ (v.outs-Masked e x) ∙ (λ i. points_of (o.Masked (r.points i) x));
  leaves = leaves-at _ _ (v.outs-Masked e x) ∙ r.leaves;
  masks = masks-at _ _ (v.outs-Masked e x) ∙ (λ i. r.masks i ++ x ∷ []);
}

-- a form of two parts
abbrev Two : Type 0
Two = Points → Points → o.EventExpr-F Points

read-two : (whole e f : EventExpr) (make : Two) (p q : Points) (cs ds : Conditions) → points whole ≡ points_of (make (points e) (points f)) → leaves whole ≡ leaves e ++ leaves f
    → composite_masks whole ≡ composite_masks e ++ composite_masks f → Read e p cs → Read f q ds → Read whole (points_of (make p q)) (both cs ds)
read-two whole e f make p q cs ds by_points by_leaves by_masks r s = record {
  points = by_points ∙ (λ i. points_of (make (r.points i) (s.points i)));
  leaves = by_leaves ∙ (λ i. r.leaves i ++ s.leaves i);
  masks = by_masks ∙ (λ i. r.masks i ++ s.masks i);
}

pub read-Or : (e f : EventExpr) (p q : Points) (cs ds : Conditions) → Read e p cs → Read f q ds → Read (v.Or e f) (points_of (o.Or p q)) (both cs ds)
read-Or e f p q cs ds = read-two (v.Or e f) e f o.Or p q cs ds (points-at _ _ (v.outs-Or e f)) (leaves-at _ _ (v.outs-Or e f)) (masks-at _ _ (v.outs-Or e f))

pub read-Relative : (e f : EventExpr) (p q : Points) (cs ds : Conditions) → Read e p cs → Read f q ds → Read (v.Relative e f) (points_of (o.Relative p q)) (both cs ds)
read-Relative e f p q cs ds =
    read-two (v.Relative e f) e f o.Relative p q cs ds (points-at _ _ (v.outs-Relative e f)) (leaves-at _ _ (v.outs-Relative e f)) (masks-at _ _ (v.outs-Relative e f))

pub read-Prior : (e f : EventExpr) (p q : Points) (cs ds : Conditions) → Read e p cs → Read f q ds → Read (v.Prior e f) (points_of (o.Prior p q)) (both cs ds)
read-Prior e f p q cs ds = read-two (v.Prior e f) e f o.Prior p q cs ds (points-at _ _ (v.outs-Prior e f)) (leaves-at _ _ (v.outs-Prior e f)) (masks-at _ _ (v.outs-Prior e f))

pub read-Sequence : (e f : EventExpr) (p q : Points) (cs ds : Conditions) → Read e p cs → Read f q ds → Read (v.Sequence e f) (points_of (o.Sequence p q)) (both cs ds)
read-Sequence e f p q cs ds =
    read-two (v.Sequence e f) e f o.Sequence p q cs ds (points-at _ _ (v.outs-Sequence e f)) (leaves-at _ _ (v.outs-Sequence e f)) (masks-at _ _ (v.outs-Sequence e f))

pub read-Pipe : (e f : EventExpr) (p q : Points) (cs ds : Conditions) → Read e p cs → Read f q ds → Read (v.Pipe e f) (points_of (o.Pipe p q)) (both cs ds)
read-Pipe e f p q cs ds = read-two (v.Pipe e f) e f o.Pipe p q cs ds (points-at _ _ (v.outs-Pipe e f)) (leaves-at _ _ (v.outs-Pipe e f)) (masks-at _ _ (v.outs-Pipe e f))

-- a form of three parts
abbrev Three : Type 0
Three = Points → Points → Points → o.EventExpr-F Points

read-three : (whole e f g : EventExpr) (make : Three) (p q r : Points) (cs ds es : Conditions) → points whole ≡ points_of (make (points e) (points f) (points g)) → leaves whole ≡ leaves e ++ leaves f ++ leaves g
    → composite_masks whole ≡ composite_masks e ++ composite_masks f ++ composite_masks g → Read e p cs → Read f q ds → Read g r es → Read whole (points_of (make p q r)) (both (both cs ds) es)
read-three whole e f g make p q r cs ds es by_points by_leaves by_masks x y z = record {
  points = by_points ∙ (λ i. points_of (make (x.points i) (y.points i) (z.points i)));
  leaves = by_leaves ∙ (λ i. x.leaves i ++ y.leaves i ++ z.leaves i);
  masks = by_masks ∙ (λ i. x.masks i ++ y.masks i ++ z.masks i);
}

pub read-Fa : (e f g : EventExpr) (p q r : Points) (cs ds es : Conditions) → Read e p cs → Read f q ds → Read g r es → Read (v.Fa e f g) (points_of (o.Fa p q r)) (both (both cs ds) es)
read-Fa e f g p q r cs ds es =
    read-three (v.Fa e f g) e f g o.Fa p q r cs ds es (points-at _ _ (v.outs-Fa e f g)) (leaves-at _ _ (v.outs-Fa e f g)) (masks-at _ _ (v.outs-Fa e f g))

pub read-FaAbs : (e f g : EventExpr) (p q r : Points) (cs ds es : Conditions) → Read e p cs → Read f q ds → Read g r es → Read (v.FaAbs e f g) (points_of (o.FaAbs p q r)) (both (both cs ds) es)
read-FaAbs e f g p q r cs ds es =
    read-three (v.FaAbs e f g) e f g o.FaAbs p q r cs ds es (points-at _ _ (v.outs-FaAbs e f g)) (leaves-at _ _ (v.outs-FaAbs e f g)) (masks-at _ _ (v.outs-FaAbs e f g))

-- so an example computes
read-conditions : (e : EventExpr) (p : Points) (cs : Conditions) → Read e p cs → conditions e ≡ cs
read-conditions e p cs r = λ i. record { leaves = r.leaves i; masks = r.masks i }

pub found-read : (e : EventExpr) (p : Points) (cs : Conditions) → Read e p cs → (history : History) → found e history ≡ found_by p cs history
found-read e p cs r history = λ i. found_by (r.points i) (read-conditions e p cs r i) history

pub table-read : (e : EventExpr) (p : Points) (cs : Conditions) → Read e p cs → symbol_table e ≡ symbol_table_of cs
table-read e p cs r = λ i. symbol_table_of (read-conditions e p cs r i)
