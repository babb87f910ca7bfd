-- The marks of an event whose masks are moved are spelled as they were: those of its symbols, and those of points with the new values.
use Rattle.std.proofs.Common.{◌≡◌, ℕ, ◌-◌, ◌%◌, ◌/◌, ◌^◌, true, cond, List, [], ◌∷◌, ◌++◌, length, map, Some, None, Option, refl, ap, ◌∙◌}
use Rattle.std.specs.Prelude.{◌&&◌, ◌||◌, ◌==◌, nat_lt, option_map}
use Rattle.std.specs.List.{list_any}
use Rattle.std.proofs.lemmas.List.{length-map}
use Rattle.ode_value.specs.declared.event.EventExpr.{EventExpr}
use Rattle.ode_value.specs.declared.event.Kind.{Kind}
use Rattle.ode_value.specs.declared.event.Point.{Point}
use Rattle.ode_value.specs.declared.statement.Expr.{Expr}
use Rattle.ode_value.specs.declared.value.Value.{Value}
use Rattle.ode_value.specs.Changing.{point_with}
use Rattle.ode_value.specs.Marks.{Leaf, leaves, composite_masks, Conditions, conditions, Condition, OfLeaf, OfEvent, same_mask, Mark, among, spelled, holds_at, mark}
use Rattle.ode_value.specs.Masks.{is_true, mask_holds, composite_holds}
use Rattle.ode_value.specs.Moving.{moved_expr, moved_event, with_masks}
use Rattle.ode_value.specs.Same.{same_kind, same_expr}
use Rattle.ode_value.specs.Symbols.{MaskedKind, Alphabet, alphabet, symbols_in, has_bit, behind, holds_apart, holds_of, holds_in, mark_among, symbol_mark}
use Rattle.ode_value.proofs.MovedEvents.{leaf_with, row_with, alphabet_with, leaves-with, masks-with, in-row, alphabet-is}
use Rattle.ode_value.proofs.MovingLaws.{plain-stays, moved-alike}

module _ (f : Expr → Expr) where
  abbrev condition_with : Condition → Condition
  condition_with (OfLeaf kind mask) = OfLeaf kind (option_map f mask)
  condition_with (OfEvent mask) = OfEvent (f mask)

  abbrev conditions_with : Conditions → Conditions
  conditions_with cs = record { leaves = map (leaf_with f) cs.leaves; masks = map f cs.masks }

  conditions-are : (e : EventExpr) → conditions (with_masks f e) ≡ conditions_with (conditions e)
  conditions-are e =
      let leafed = leaves-with f e in
      let masked = masks-with f e in
      λ i. record { leaves = leafed i; masks = masked i }

  -- sets that say the same of moved conditions are spelled the same
  module _ (m n : Mark) (is : (c : Condition) → m (condition_with c) ≡ n c) where
    leaves-spelled : (ls : List Leaf) → map (λ (l : Leaf). m (OfLeaf l.0 l.1)) (map (leaf_with f) ls) ≡ map (λ (l : Leaf). n (OfLeaf l.0 l.1)) ls
    leaves-spelled [] = refl
    leaves-spelled (l ∷ ls) = λ i. is (OfLeaf l.0 l.1) i ∷ leaves-spelled ls i

    masks-spelled : (xs : List Expr) → map (λ x. m (OfEvent x)) (map f xs) ≡ map (λ x. n (OfEvent x)) xs
    masks-spelled [] = refl
    masks-spelled (x ∷ xs) = λ i. is (OfEvent x) i ∷ masks-spelled xs i

    spelled-with : (e : EventExpr) → spelled (with_masks f e) m ≡ spelled e n
    spelled-with e =
        (λ i. map (λ (l : Leaf). m (OfLeaf l.0 l.1)) (leaves-with f e i) ++ map (λ x. m (OfEvent x)) (masks-with f e i))
        ∙ (λ i. leaves-spelled (leaves e) i ++ masks-spelled (composite_masks e) i)

  module _ (alike : (x y : Expr) → same_expr (f x) (f y) ≡ same_expr x y) where
    mask-alike : (x y : Option Expr) → same_mask (option_map f x) (option_map f y) ≡ same_mask x y
    mask-alike None None = refl
    mask-alike None (Some y) = refl
    mask-alike (Some x) None = refl
    mask-alike (Some x) (Some y) = alike x y

    any-leaf : (kind : Kind) (mask : Option Expr) (ls : List Leaf)
        → list_any (λ (l : Leaf). same_kind l.0 kind && same_mask l.1 (option_map f mask)) (map (leaf_with f) ls)
        ≡ list_any (λ (l : Leaf). same_kind l.0 kind && same_mask l.1 mask) ls
    any-leaf kind mask [] = refl
    any-leaf kind mask (l ∷ ls) = λ i. (same_kind l.0 kind && mask-alike l.1 mask i) || any-leaf kind mask ls i

    any-mask : (mask : Expr) (xs : List Expr) → list_any (λ x. same_expr x (f mask)) (map f xs) ≡ list_any (λ x. same_expr x mask) xs
    any-mask mask [] = refl
    any-mask mask (x ∷ xs) = λ i. alike x mask i || any-mask mask xs i

    among-with : (cs : Conditions) (c : Condition) → among (conditions_with cs) (condition_with c) ≡ among cs c
    among-with cs (OfLeaf kind mask) = any-leaf kind mask cs.leaves
    among-with cs (OfEvent mask) = any-mask mask cs.masks

    among-is : (e : EventExpr) (c : Condition) → among (conditions (with_masks f e)) (condition_with c) ≡ among (conditions e) c
    among-is e c = ap (λ cs. among cs (condition_with c)) (conditions-are e) ∙ among-with (conditions e) c

    -- ---- the marks of symbols

    bit-with : (xs : List Expr) (n : ℕ) (mask : Option Expr) → has_bit (map f xs) n (option_map f mask) ≡ has_bit xs n mask
    bit-with [] n None = refl
    bit-with [] n (Some x) = refl
    bit-with (y ∷ ys) n None = refl
    bit-with (y ∷ ys) n (Some x) = λ i. cond (alike y x i) (n % 2 == 1) (bit-with ys (n / 2) (Some x) i)

    behind-with : (xs : List Expr) (n : ℕ) → behind (map f xs) n ≡ behind xs n
    behind-with [] n = refl
    behind-with (x ∷ xs) n = behind-with xs (n / 2)

    apart-with : (masks : List Expr) (n : ℕ) (c : Condition) → holds_apart (map f masks) n (condition_with c) ≡ holds_apart masks n c
    apart-with masks n (OfLeaf kind mask) = refl
    apart-with masks n (OfEvent mask) = bit-with masks n (Some mask)

    of-with : (masks : List Expr) (row : MaskedKind) (n : ℕ) (c : Condition) → holds_of (map f masks) (row_with f row) n (condition_with c) ≡ holds_of masks row n c
    of-with masks row n (OfLeaf kind mask) = λ i. same_kind row.kind kind && bit-with row.masks n mask i
    of-with masks row n (OfEvent mask) =
        ap (λ k. has_bit (map f masks) k (Some (f mask))) (behind-with row.masks n) ∙ bit-with masks (behind row.masks n) (Some mask)

    in-with : (masks : List Expr) (rows : List MaskedKind) (n : ℕ) (c : Condition)
        → holds_in (map f masks) (map (row_with f) rows) n (condition_with c) ≡ holds_in masks rows n c
    in-with masks [] n c = refl
    in-with masks (row ∷ rest) n c =
        (λ i. cond (nat_lt n (in-row f masks row i)) (of-with masks row n c i) (holds_in (map f masks) (map (row_with f) rest) (n - in-row f masks row i) (condition_with c)))
        ∙ ap (cond (nat_lt n (symbols_in masks row)) (holds_of masks row n c)) (in-with masks rest (n - symbols_in masks row) c)

    mark-among : (a : Alphabet) (n : ℕ) (c : Condition) → mark_among (alphabet_with f a) n (condition_with c) ≡ mark_among a n c
    mark-among a n c =
        (λ i. cond (nat_lt n (2 ^ (length-map a.masks f i))) (apart-with a.masks n c i)
        (holds_in (map f a.masks) (map (row_with f) a.kinds) (n - 2 ^ (length-map a.masks f i)) (condition_with c)))
        ∙ ap (cond (nat_lt n (2 ^ length a.masks)) (holds_apart a.masks n c)) (in-with a.masks a.kinds (n - 2 ^ length a.masks) c)

    symbol-with : (e : EventExpr) (n : ℕ) (c : Condition) → symbol_mark (with_masks f e) n (condition_with c) ≡ symbol_mark e n c
    symbol-with e n c =
        let there = ap (λ a. mark_among a n (condition_with c)) (alphabet-is f alike e) ∙ mark-among (alphabet e) n c in
        λ i. among-is e c i && there i

    -- ---- the mark of a point at which the other masks hold where these do

    module _ (params : List Value) (p q : Point) (kind : q.kind ≡ p.kind) (holds : (x : Expr) → mask_holds (Some (f x)) params q ≡ mask_holds (Some x) params p)
        (composite : (x : Expr) → composite_holds (f x) params q.fields ≡ composite_holds x params p.fields) where
      holds-with : (c : Condition) → holds_at params q (condition_with c) ≡ holds_at params p c
      holds-with (OfLeaf k None) = λ i. same_kind (kind i) k && true
      holds-with (OfLeaf k (Some x)) = λ i. same_kind (kind i) k && holds x i
      holds-with (OfEvent x) = composite x

      point-with : (e : EventExpr) (c : Condition) → mark (with_masks f e) params q (condition_with c) ≡ mark e params p c
      point-with e c = λ i. among-is e c i && holds-with c i

pub symbols-spelled : (at more : ℕ) (e : EventExpr) (n : ℕ) → spelled (moved_event at more e) (symbol_mark (moved_event at more e) n) ≡ spelled e (symbol_mark e n)
symbols-spelled at more e n =
    let f = moved_expr at more in
    spelled-with f (symbol_mark (moved_event at more e) n) (symbol_mark e n) (symbol-with f (moved-alike at more) e n) e

pub points-spelled : (new : List Value) (at : ℕ) (e : EventExpr) (params : List Value) (p : Point)
    → spelled (moved_event at (length new) e) (mark (moved_event at (length new) e) params (point_with at new p)) ≡ spelled e (mark e params p)
points-spelled new at e params p =
    let f = moved_expr at (length new) in
    let q = point_with at new p in
    let holds = λ (x : Expr). ap is_true (plain-stays at new (record { locals = params ++ p.args; own = p.fields }) x) in
    let composite = λ (x : Expr). ap is_true (plain-stays at new (record { locals = params; own = p.fields }) x) in
    spelled-with f (mark (moved_event at (length new) e) params q) (mark e params p) (point-with f (moved-alike at (length new)) params p q refl holds composite e) e
