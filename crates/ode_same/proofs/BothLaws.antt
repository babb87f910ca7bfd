-- The conditions of two expressions are among those of both together.
use Rattle.std.proofs.Common.{◌≡◌, Bool, true, List, [], ◌∷◌, ◌++◌, refl, ap, ◌∙◌}
use Rattle.std.specs.Prelude.{◌&&◌}
use Rattle.std.specs.List.{list_all, list_any}
use Rattle.std.proofs.lemmas.Bool.{and_from, and_parts, or_left, or_right}
use Rattle.std.proofs.lemmas.List.Folds.{list_any-append}
use Rattle.ode_value.specs.declared.event.EventExpr.{EventExpr}
use Rattle.ode_value.specs.declared.event.EventExpr.TheVariants.{Or}
use Rattle.ode_value.specs.declared.statement.Expr.{Expr}
use Rattle.ode_value.specs.Marks.{Condition, Leaf, OfEvent, OfLeaf, among, composite_masks, conditions, leaves, same_mask}
use Rattle.ode_value.specs.Same.{same_expr, same_kind}
use Rattle.ode_symbols.specs.Alphabets.{are_conditions_of}
use Rattle.ode_symbols.proofs.ConditionLists.{masks-Or, of-Or}
use Rattle.ode_symbols.proofs.OwnConditions.{own-conditions}
use Rattle.ode_same.specs.Differing.{either}

pub either_is : (e f : EventExpr) → either e f ≡ Or e f
unfolding either
either_is e f = refl

leaves-either : (e f : EventExpr) → leaves (either e f) ≡ leaves e ++ leaves f
leaves-either e f = ap leaves (either_is e f) ∙ of-Or e f

masks-either : (e f : EventExpr) → composite_masks (either e f) ≡ composite_masks e ++ composite_masks f
masks-either e f = ap composite_masks (either_is e f) ∙ masks-Or e f

any-first : {A : Type 0} (p : A → Bool) (xs ys all : List A) → all ≡ xs ++ ys → list_any p xs ≡ true → list_any p all ≡ true
any-first p xs ys all is h = ap (list_any p) is ∙ list_any-append p xs ys ∙ or_left (list_any p xs) (list_any p ys) h

any-second : {A : Type 0} (p : A → Bool) (xs ys all : List A) → all ≡ xs ++ ys → list_any p ys ≡ true → list_any p all ≡ true
any-second p xs ys all is h = ap (list_any p) is ∙ list_any-append p xs ys ∙ or_right (list_any p xs) (list_any p ys) h

all-more : {A : Type 0} (p q : A → Bool) → ((x : A) → p x ≡ true → q x ≡ true) → (xs : List A) → list_all p xs ≡ true → list_all q xs ≡ true
all-more p q more [] h = h
all-more p q more (x ∷ xs) h =
    let both = and_parts (p x) (list_all p xs) h in
    and_from (q x) (list_all q xs) (more x both.0) (all-more p q more xs both.1)

first-among : (e f : EventExpr) (c : Condition) → among (conditions e) c ≡ true → among (conditions (either e f)) c ≡ true
first-among e f (OfLeaf kind mask) h = any-first (λ (l : Leaf). same_kind l.0 kind && same_mask l.1 mask) (leaves e) (leaves f) (leaves (either e f)) (leaves-either e f) h
first-among e f (OfEvent mask) h = any-first (λ x. same_expr x mask) (composite_masks e) (composite_masks f) (composite_masks (either e f)) (masks-either e f) h

second-among : (e f : EventExpr) (c : Condition) → among (conditions f) c ≡ true → among (conditions (either e f)) c ≡ true
second-among e f (OfLeaf kind mask) h = any-second (λ (l : Leaf). same_kind l.0 kind && same_mask l.1 mask) (leaves e) (leaves f) (leaves (either e f)) (leaves-either e f) h
second-among e f (OfEvent mask) h = any-second (λ x. same_expr x mask) (composite_masks e) (composite_masks f) (composite_masks (either e f)) (masks-either e f) h

-- conditions that are among an expression's are among another's, where all of the one are
conditions-more : (e of : EventExpr) → ((c : Condition) → among (conditions e) c ≡ true → among (conditions of) c ≡ true) → are_conditions_of e of ≡ true
conditions-more e of more =
    let own = and_parts (list_all (λ (l : Leaf). among (conditions e) (OfLeaf l.0 l.1)) (leaves e)) (list_all (λ x. among (conditions e) (OfEvent x)) (composite_masks e)) (own-conditions e) in
    and_from (list_all (λ (l : Leaf). among (conditions of) (OfLeaf l.0 l.1)) (leaves e)) (list_all (λ x. among (conditions of) (OfEvent x)) (composite_masks e))
    (all-more (λ (l : Leaf). among (conditions e) (OfLeaf l.0 l.1)) (λ (l : Leaf). among (conditions of) (OfLeaf l.0 l.1)) (λ l. more (OfLeaf l.0 l.1)) (leaves e) own.0)
    (all-more (λ (x : Expr). among (conditions e) (OfEvent x)) (λ x. among (conditions of) (OfEvent x)) (λ x. more (OfEvent x)) (composite_masks e) own.1)

pub first-conditions : (e f : EventExpr) → are_conditions_of e (either e f) ≡ true
first-conditions e f = conditions-more e (either e f) (first-among e f)

pub second-conditions : (e f : EventExpr) → are_conditions_of f (either e f) ≡ true
second-conditions e f = conditions-more f (either e f) (second-among e f)
