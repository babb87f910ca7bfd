-- An event whose masks are moved has as many symbols as it had, and a point with the new values has the symbol that it had.
use Rattle.std.proofs.Common.{◌≡◌, ℕ, ◌+◌, ◌*◌, ◌^◌, Bool, true, false, cond, List, [], ◌∷◌, ◌++◌, length, map, Some, None, Option, refl, ap, sym, ◌∙◌, subst}
use Rattle.std.specs.Prelude.{not, filter, filter_map, sum_by, option_map}
use Rattle.std.specs.List.{cons_option}
use Rattle.std.specs.Option.{option_map_or}
use Rattle.std.proofs.lemmas.List.{length-map, map-append}
use Rattle.std.proofs.lemmas.List.Sums.{sum_by-cons}
use Rattle.ode_value.specs.declared.event.EventExpr.{EventExpr, roll-EventExpr, fold-roll-EventExpr, map-EventExpr, ind-EventExpr}
use Rattle.ode_value.specs.declared.event.EventExpr.TheOpen as event
use Rattle.ode_value.specs.declared.event.Kind.{Kind}
use Rattle.ode_value.specs.declared.event.Point.{Point}
use Rattle.ode_value.specs.declared.statement.Expr.{Expr}
use Rattle.ode_value.specs.declared.value.Value.{Value}
use Rattle.ode_value.specs.Changing.{point_with}
use Rattle.ode_value.specs.Marks.{Leaf, leaves, leaves_of, composite_masks, composite_masks_of}
use Rattle.ode_value.specs.Masks.{is_true, mask_holds, composite_holds}
use Rattle.ode_value.specs.Moving.{moved_expr, moved_event, with_masks, with_masks_of}
use Rattle.ode_value.specs.Same.{same_kind, same_expr}
use Rattle.ode_value.specs.Symbols.{distinct, MaskedKind, mask_of, masked_kind, masked_kinds, Alphabet, alphabet, symbols_in, size_of, symbol_count, bits_before, composite_bits, number_in, symbol_among, symbol}
use Rattle.ode_value.proofs.MovingLaws.{plain-stays, moved-alike}

leaves-roll : (d : event.EventExpr-F EventExpr) → leaves (roll-EventExpr d) ≡ leaves_of (map-EventExpr EventExpr (List Leaf) leaves d)
unfolding leaves
leaves-roll d = fold-roll-EventExpr (List Leaf) leaves_of d

masks-roll : (d : event.EventExpr-F EventExpr) → composite_masks (roll-EventExpr d) ≡ composite_masks_of (map-EventExpr EventExpr (List Expr) composite_masks d)
unfolding composite_masks
masks-roll d = fold-roll-EventExpr (List Expr) composite_masks_of d

with-roll : (f : Expr → Expr) (d : event.EventExpr-F EventExpr) → with_masks f (roll-EventExpr d) ≡ roll-EventExpr (with_masks_of f (map-EventExpr EventExpr EventExpr (with_masks f) d))
unfolding with_masks
with-roll f d = fold-roll-EventExpr EventExpr (λ x. roll-EventExpr (with_masks_of f x)) d

map-cond : {X Y : Type 0} (g : X → Y) (t : Bool) (x : X) (xs : List X) → cond t (g x ∷ map g xs) (map g xs) ≡ map g (cond t (x ∷ xs) xs)
map-cond g true x xs = refl
map-cond g false x xs = refl

module _ (f : Expr → Expr) where
  abbrev pub leaf_with : Leaf → Leaf
  leaf_with l = (l.0, option_map f l.1)

  abbrev pub row_with : MaskedKind → MaskedKind
  row_with row = record { kind = row.kind; masks = map f row.masks }

  abbrev pub alphabet_with : Alphabet → Alphabet
  alphabet_with a = record { kinds = map row_with a.kinds; masks = map f a.masks }

  -- an event's level, with its events and then itself with other masks
  abbrev level_with : event.EventExpr-F EventExpr → event.EventExpr-F EventExpr
  level_with d = with_masks_of f (map-EventExpr EventExpr EventExpr (with_masks f) d)

  -- ---- leaves

  abbrev HasLeaves : EventExpr → Type 0
  HasLeaves e = leaves (with_masks f e) ≡ map leaf_with (leaves e)

  abbrev Leafed : Type 0
  Leafed = (e : EventExpr) × HasLeaves e

  abbrev leafed_event : Leafed → EventExpr
  leafed_event x = x.0

  both-leaves : (e g : Leafed) → leaves (with_masks f e.0) ++ leaves (with_masks f g.0) ≡ map leaf_with (leaves e.0 ++ leaves g.0)
  both-leaves e g = (λ i. e.1 i ++ g.1 i) ∙ sym (map-append leaf_with (leaves e.0) (leaves g.0))

  three-leaves : (e g h : Leafed)
      → leaves (with_masks f e.0) ++ leaves (with_masks f g.0) ++ leaves (with_masks f h.0) ≡ map leaf_with (leaves e.0 ++ leaves g.0 ++ leaves h.0)
  three-leaves e g h = (λ i. both-leaves e g i ++ h.1 i) ∙ sym (map-append leaf_with (leaves e.0 ++ leaves g.0) (leaves h.0))

  level-leaves : (y : event.EventExpr-F Leafed)
      → leaves_of (map-EventExpr EventExpr (List Leaf) leaves (level_with (map-EventExpr Leafed EventExpr leafed_event y)))
      ≡ map leaf_with (leaves_of (map-EventExpr EventExpr (List Leaf) leaves (map-EventExpr Leafed EventExpr leafed_event y)))
  level-leaves (event.Leaf kind mask) = refl
  level-leaves event.Any = refl
  level-leaves event.First = refl
  level-leaves (event.Not e) = e.1
  level-leaves (event.And e g) = both-leaves e g
  level-leaves (event.Or e g) = both-leaves e g
  level-leaves (event.Relative e g) = both-leaves e g
  level-leaves (event.RelPlus e) = e.1
  level-leaves (event.Prior e g) = both-leaves e g
  level-leaves (event.Sequence e g) = both-leaves e g
  level-leaves (event.Pipe e g) = both-leaves e g
  level-leaves (event.Choose n e) = e.1
  level-leaves (event.Every n e) = e.1
  level-leaves (event.Fa e g h) = three-leaves e g h
  level-leaves (event.FaAbs e g h) = three-leaves e g h
  level-leaves (event.Masked e mask) = e.1

  pub leaves-with : (e : EventExpr) → HasLeaves e
  leaves-with = ind-EventExpr HasLeaves (λ x y q. subst (λ d. HasLeaves (roll-EventExpr d)) q (here y)) where
    here : (y : event.EventExpr-F Leafed) → HasLeaves (roll-EventExpr (map-EventExpr Leafed EventExpr leafed_event y))
    here y =
        let d = map-EventExpr Leafed EventExpr leafed_event y in
        ap leaves (with-roll f d) ∙ leaves-roll (level_with d) ∙ level-leaves y ∙ ap (map leaf_with) (sym (leaves-roll d))

  -- ---- masks on composite events

  abbrev HasMasks : EventExpr → Type 0
  HasMasks e = composite_masks (with_masks f e) ≡ map f (composite_masks e)

  abbrev Masked : Type 0
  Masked = (e : EventExpr) × HasMasks e

  abbrev masked_event : Masked → EventExpr
  masked_event x = x.0

  both-masks : (e g : Masked) → composite_masks (with_masks f e.0) ++ composite_masks (with_masks f g.0) ≡ map f (composite_masks e.0 ++ composite_masks g.0)
  both-masks e g = (λ i. e.1 i ++ g.1 i) ∙ sym (map-append f (composite_masks e.0) (composite_masks g.0))

  three-masks : (e g h : Masked)
      → composite_masks (with_masks f e.0) ++ composite_masks (with_masks f g.0) ++ composite_masks (with_masks f h.0)
      ≡ map f (composite_masks e.0 ++ composite_masks g.0 ++ composite_masks h.0)
  three-masks e g h = (λ i. both-masks e g i ++ h.1 i) ∙ sym (map-append f (composite_masks e.0 ++ composite_masks g.0) (composite_masks h.0))

  level-masks : (y : event.EventExpr-F Masked)
      → composite_masks_of (map-EventExpr EventExpr (List Expr) composite_masks (level_with (map-EventExpr Masked EventExpr masked_event y)))
      ≡ map f (composite_masks_of (map-EventExpr EventExpr (List Expr) composite_masks (map-EventExpr Masked EventExpr masked_event y)))
  level-masks (event.Leaf kind mask) = refl
  level-masks event.Any = refl
  level-masks event.First = refl
  level-masks (event.Not e) = e.1
  level-masks (event.And e g) = both-masks e g
  level-masks (event.Or e g) = both-masks e g
  level-masks (event.Relative e g) = both-masks e g
  level-masks (event.RelPlus e) = e.1
  level-masks (event.Prior e g) = both-masks e g
  level-masks (event.Sequence e g) = both-masks e g
  level-masks (event.Pipe e g) = both-masks e g
  level-masks (event.Choose n e) = e.1
  level-masks (event.Every n e) = e.1
  level-masks (event.Fa e g h) = three-masks e g h
  level-masks (event.FaAbs e g h) = three-masks e g h
  level-masks (event.Masked e mask) = (λ i. e.1 i ++ (f mask ∷ [])) ∙ sym (map-append f (composite_masks e.0) (mask ∷ []))

  pub masks-with : (e : EventExpr) → HasMasks e
  masks-with = ind-EventExpr HasMasks (λ x y q. subst (λ d. HasMasks (roll-EventExpr d)) q (here y)) where
    here : (y : event.EventExpr-F Masked) → HasMasks (roll-EventExpr (map-EventExpr Masked EventExpr masked_event y))
    here y =
        let d = map-EventExpr Masked EventExpr masked_event y in
        ap composite_masks (with-roll f d) ∙ masks-roll (level_with d) ∙ level-masks y ∙ ap (map f) (sym (masks-roll d))

  -- ---- the masks of a kind

  option-cond : (t : Bool) (m : Option Expr) → cond t (option_map f m) None ≡ option_map f (cond t m None)
  option-cond true m = refl
  option-cond false m = refl

  cons-with : (m : Option Expr) (xs : List Expr) → cons_option (option_map f m) (map f xs) ≡ map f (cons_option m xs)
  cons-with None xs = refl
  cons-with (Some x) xs = refl

  masks-in : (kind : Kind) (ls : List Leaf) → filter_map (mask_of kind) (map leaf_with ls) ≡ map f (filter_map (mask_of kind) ls)
  masks-in kind [] = refl
  masks-in kind (l ∷ ls) =
      (λ i. cons_option (option-cond (same_kind l.0 kind) l.1 i) (masks-in kind ls i)) ∙ cons-with (mask_of kind l) (filter_map (mask_of kind) ls)

  kinds-with : (ls : List Leaf) → map (λ (l : Leaf). l.0) (map leaf_with ls) ≡ map (λ (l : Leaf). l.0) ls
  kinds-with [] = refl
  kinds-with (l ∷ ls) = ap (λ ks. l.0 ∷ ks) (kinds-with ls)

  -- ---- how many symbols

  pub in-row : (masks : List Expr) (row : MaskedKind) → symbols_in (map f masks) (row_with row) ≡ symbols_in masks row
  in-row masks row = λ i. 2 ^ (length-map row.masks f i + length-map masks f i)

  in-rows : (masks : List Expr) (rows : List MaskedKind) → sum_by (symbols_in (map f masks)) (map row_with rows) ≡ sum_by (symbols_in masks) rows
  in-rows masks [] = refl
  in-rows masks (row ∷ rows) =
      sum_by-cons (symbols_in (map f masks)) (row_with row) (map row_with rows) ∙ (λ i. in-row masks row i + in-rows masks rows i)
      ∙ sym (sum_by-cons (symbols_in masks) row rows)

  in-all : (a : Alphabet) → size_of (alphabet_with a) ≡ size_of a
  in-all a = λ i. 2 ^ (length-map a.masks f i) + in-rows a.masks a.kinds i

  -- ---- the symbol of a point at which the other masks hold where these do

  bits-with : (n : ℕ) (h g : Expr → Bool) → ((x : Expr) → h (f x) ≡ g x) → (xs : List Expr) → bits_before n h (map f xs) ≡ bits_before n g xs
  bits-with n h g is [] = refl
  bits-with n h g is (x ∷ xs) = λ i. cond (is x i) 1 0 + 2 * bits-with n h g is xs i

  module _ (params : List Value) (p q : Point) (kind : q.kind ≡ p.kind) (holds : (x : Expr) → mask_holds (Some (f x)) params q ≡ mask_holds (Some x) params p)
      (composite : (x : Expr) → composite_holds (f x) params q.fields ≡ composite_holds x params p.fields) where
    composites : (masks : List Expr) → composite_bits (map f masks) params q.fields ≡ composite_bits masks params p.fields
    composites masks = bits-with 0 (λ x. composite_holds x params q.fields) (λ x. composite_holds x params p.fields) composite masks

    row-bits : (masks : List Expr) (row : MaskedKind)
        → bits_before (composite_bits (map f masks) params q.fields) (λ x. mask_holds (Some x) params q) (map f row.masks)
        ≡ bits_before (composite_bits masks params p.fields) (λ x. mask_holds (Some x) params p) row.masks
    row-bits masks row =
        ap (λ n. bits_before n (λ x. mask_holds (Some x) params q) (map f row.masks)) (composites masks)
        ∙ bits-with (composite_bits masks params p.fields) (λ x. mask_holds (Some x) params q) (λ x. mask_holds (Some x) params p) holds row.masks

    number-with : (masks : List Expr) (rows : List MaskedKind) → number_in (map f masks) (map row_with rows) params q ≡ number_in masks rows params p
    number-with masks [] = refl
    number-with masks (row ∷ rest) =
        λ i. cond (same_kind row.kind (kind i)) (Some (row-bits masks row i)) (option_map (λ n. in-row masks row i + n) (number-with masks rest i))

    among-with : (a : Alphabet) → symbol_among (alphabet_with a) params q ≡ symbol_among a params p
    among-with a = λ i. option_map_or (λ n. 2 ^ (length-map a.masks f i) + n) (number-with a.masks a.kinds i) (composites a.masks i)

  -- ---- the alphabet, where other masks are the same where these are

  module _ (alike : (x y : Expr) → same_expr (f x) (f y) ≡ same_expr x y) where
    filter-with : (x : Expr) (ys : List Expr) → filter (λ y. not (same_expr (f x) y)) (map f ys) ≡ map f (filter (λ y. not (same_expr x y)) ys)
    filter-with x [] = refl
    filter-with x (y ∷ ys) =
        (λ i. cond (not (alike x y i)) (f y ∷ filter-with x ys i) (filter-with x ys i))
        ∙ map-cond f (not (same_expr x y)) y (filter (λ z. not (same_expr x z)) ys)

    distinct-with : (xs : List Expr) → distinct same_expr (map f xs) ≡ map f (distinct same_expr xs)
    distinct-with [] = refl
    distinct-with (x ∷ xs) =
        (λ i. f x ∷ filter (λ y. not (same_expr (f x) y)) (distinct-with xs i)) ∙ ap (λ l. f x ∷ l) (filter-with x (distinct same_expr xs))

    row-is : (ls : List Leaf) (kind : Kind) → masked_kind (map leaf_with ls) kind ≡ row_with (masked_kind ls kind)
    row-is ls kind =
        let masks = ap (distinct same_expr) (masks-in kind ls) ∙ distinct-with (filter_map (mask_of kind) ls) in
        λ i. record { kind = kind; masks = masks i }

    each-row : (ls : List Leaf) (kinds : List Kind) → map (masked_kind (map leaf_with ls)) kinds ≡ map row_with (map (masked_kind ls) kinds)
    each-row ls [] = refl
    each-row ls (kind ∷ kinds) = λ i. row-is ls kind i ∷ each-row ls kinds i

    rows-are : (ls : List Leaf) → masked_kinds (map leaf_with ls) ≡ map row_with (masked_kinds ls)
    rows-are ls =
        (λ i. map (masked_kind (map leaf_with ls)) (distinct same_kind (kinds-with ls i))) ∙ each-row ls (distinct same_kind (map (λ (l : Leaf). l.0) ls))

    pub alphabet-is : (e : EventExpr) → alphabet (with_masks f e) ≡ alphabet_with (alphabet e)
    alphabet-is e =
        let kinds = ap masked_kinds (leaves-with e) ∙ rows-are (leaves e) in
        let masks = ap (distinct same_expr) (masks-with e) ∙ distinct-with (composite_masks e) in
        λ i. record { kinds = kinds i; masks = masks i }

-- a moved event has as many symbols
pub count-stays : (at more : ℕ) (e : EventExpr) → symbol_count (moved_event at more e) ≡ symbol_count e
count-stays at more e =
    let f = moved_expr at more in
    ap size_of (alphabet-is f (moved-alike at more) e) ∙ in-all f (alphabet e)

-- and a point with the new values its symbol
pub symbol-stays : (new : List Value) (at : ℕ) (e : EventExpr) (params : List Value) (p : Point)
    → symbol (moved_event at (length new) e) params (point_with at new p) ≡ symbol e params p
symbol-stays new at e params p =
    let f = moved_expr at (length new) in
    let q = point_with at new p in
    let holds = λ (x : Expr). ap is_true (plain-stays at new (record { locals = params ++ p.args; own = p.fields }) x) in
    let composite = λ (x : Expr). ap is_true (plain-stays at new (record { locals = params; own = p.fields }) x) in
    ap (λ a. symbol_among a params q) (alphabet-is f (moved-alike at (length new)) e) ∙ among-with f params p q refl holds composite (alphabet e)
