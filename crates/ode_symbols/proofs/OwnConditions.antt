-- The conditions of an expression are among its conditions.
use Rattle.std.proofs.Common.{◌≡◌, true, List, [], ◌∷◌, ◌++◌, append_assoc, Bool, Some, None, Option, refl, ◌∙◌, subst}
use Rattle.std.specs.Prelude.{◌&&◌, ◌||◌}
use Rattle.std.specs.List.{list_all, list_any}
use Rattle.std.proofs.lemmas.Bool.{and_from, or_left, or_right}
use Rattle.std.proofs.lemmas.List.Folds.{list_any-append}
use Rattle.ode_value.specs.declared.event.EventExpr.{EventExpr}
use Rattle.ode_value.specs.declared.statement.Expr.{Expr}
use Rattle.ode_value.specs.Marks.{Leaf, OfEvent, OfLeaf, among, composite_masks, conditions, leaves, same_mask}
use Rattle.ode_value.specs.Same.{same_expr, same_kind}
use Rattle.ode_value.proofs.Sames.{kind-itself, expr-itself}
use Rattle.ode_symbols.specs.Alphabets.{are_conditions_of}

mask-itself : (mask : Option Expr) → same_mask mask mask ≡ true
mask-itself None = refl
mask-itself (Some x) = expr-itself x

abbrev same_leaf : Leaf → Leaf → Bool
same_leaf k l = same_kind k.0 l.0 && same_mask k.1 l.1

leaf-itself : (l : Leaf) → same_leaf l l ≡ true
leaf-itself l = and_from (same_kind l.0 l.0) (same_mask l.1 l.1) (kind-itself l.0) (mask-itself l.1)

-- where each is the same as itself, each of a list is the same as one of the list
module _ {A : Type 0} (same : A → A → Bool) (itself : (x : A) → same x x ≡ true) where
  one-among : (front back : List A) (x : A) → list_any (λ y. same y x) (front ++ x ∷ back) ≡ true
  one-among front back x =
      list_any-append (λ y. same y x) front (x ∷ back)
      ∙ or_right (list_any (λ y. same y x) front) (same x x || list_any (λ y. same y x) back) (or_left (same x x) (list_any (λ y. same y x) back) (itself x))

  each-among : (front back : List A) → list_all (λ x. list_any (λ y. same y x) (front ++ back)) back ≡ true
  each-among front [] = refl
  each-among front (x ∷ back) =
      let list : (front ++ x ∷ []) ++ back ≡ front ++ x ∷ back = append_assoc front (x ∷ []) back in
      and_from (list_any (λ y. same y x) (front ++ x ∷ back)) (list_all (λ z. list_any (λ y. same y z) (front ++ x ∷ back)) back) (one-among front back x)
      (subst (λ l. list_all (λ z. list_any (λ y. same y z) l) back ≡ true) list (each-among (front ++ x ∷ []) back))

pub own-conditions : (e : EventExpr) → are_conditions_of e e ≡ true
own-conditions e =
    and_from (list_all (λ (l : Leaf). among (conditions e) (OfLeaf l.0 l.1)) (leaves e)) (list_all (λ x. among (conditions e) (OfEvent x)) (composite_masks e))
    (each-among same_leaf leaf-itself [] (leaves e))
    (each-among same_expr expr-itself [] (composite_masks e))
