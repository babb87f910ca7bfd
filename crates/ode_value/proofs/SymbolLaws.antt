-- A point's symbol is below the count, and the symbol's mark is the point's.
use Rattle.std.proofs.Common.{◌≡◌, ℕ, suc, ◌+◌, ◌-◌, ◌*◌, ◌/◌, ◌%◌, ◌^◌, ◌<◌, ◌≤◌, Bool, true, false, cond, List, [], ◌∷◌, length, map, Some, None, Option, refl, ap, sym, ◌∙◌, subst, arith}
use Rattle.std.specs.Prelude.{◌&&◌, ◌||◌, not, ◌==◌, nat_lt, filter, filter_map, sum_by, option_map}
use Rattle.std.specs.List.{list_any, cons_option}
use Rattle.std.specs.Option.{option_map_or}
use Rattle.std.proofs.lemmas.Bool.{both_ways, false_from_ne_true, le-ltb, lt-ltb, not_from_false}
use Rattle.std.proofs.Math.Bool.{and-false}
use Rattle.std.proofs.lemmas.List.Sums.{sum_by-cons}
use Rattle.std.proofs.lemmas.Map.Views.{any-filter_same}
use Rattle.std.proofs.Math.Nat.{pow-suc}
use Rattle.ode_value.specs.declared.event.EventExpr.{EventExpr}
use Rattle.ode_value.specs.declared.event.Kind.{Kind}
use Rattle.ode_value.specs.declared.event.Point.{Point}
use Rattle.ode_value.specs.declared.statement.Expr.{Expr}
use Rattle.ode_value.specs.declared.value.Value.{Value}
use Rattle.ode_value.specs.Marks.{Condition, Conditions, Leaf, OfEvent, OfLeaf, among, conditions, mark, mark_of, same_mask}
use Rattle.ode_value.specs.Masks.{composite_holds, mask_holds}
use Rattle.ode_value.specs.Same.{same_kind, same_expr}
use Rattle.ode_value.specs.Symbols.{Alphabet, distinct, MaskedKind, mask_of, masked_kind, masked_kinds, alphabet_of, symbols_apart, symbols_in, size_of, symbol_count, bits_before, composite_bits, number_in, symbol_among, symbol, has_bit, behind, holds_in, symbol_mark_of, symbol_mark}
use Rattle.ode_value.proofs.Sames.{kind-same, expr-same}

-- ---- each member once

apart : {A : Type 0} (same : A → A → Bool) → ((x y : A) → same x y ≡ true → x ≡ y) → (x z : A) → same x z ≡ false → (y : A) → same y z ≡ true → not (same x y) ≡ true
apart same eq x z p y q = not_from_false (same x y) (false_from_ne_true (same x y) (λ h. both_ways (same x z) p (ap (λ u. same u z) (eq x y h) ∙ q)))

pub distinct-any : {A : Type 0} (same : A → A → Bool) → ((x y : A) → same x y ≡ true → x ≡ y) → (z : A) (xs : List A) → list_any (λ y. same y z) (distinct same xs) ≡ list_any (λ y. same y z) xs
distinct-any same eq z [] = refl
distinct-any same eq z (x ∷ xs) = by_test (distinct-any same eq z xs) (same x z) refl where
  by_test : list_any (λ y. same y z) (distinct same xs) ≡ list_any (λ y. same y z) xs → (t : Bool) → same x z ≡ t
      → (t || list_any (λ y. same y z) (filter (λ y. not (same x y)) (distinct same xs))) ≡ (t || list_any (λ y. same y z) xs)
  by_test rest true p = refl
  by_test rest false p = any-filter_same (λ y. same y z) (λ y. not (same x y)) true (apart same eq x z p) (distinct same xs) ∙ rest

-- ---- numbers and their bits

pub number-below : (n k : ℕ) → n < 2 ^ k → (holds : Expr → Bool) (xs : List Expr) → bits_before n holds xs < 2 ^ (length xs + k)
number-below n k below holds [] = let none : k ≡ 0 + k = omega arith in subst (λ j. n < 2 ^ j) none below
number-below n k below holds (x ∷ xs) =
    let more : suc (length xs + k) ≡ suc (length xs) + k = omega arith in
    subst (λ j. cond (holds x) 1 0 + 2 * bits_before n holds xs < 2 ^ j) more
    (with_bit (holds x) (bits_before n holds xs) (2 ^ (length xs + k)) (number-below n k below holds xs) (pow-suc 2 (length xs + k)))
  where
    with_bit : (b : Bool) (i m : ℕ) → i < m → 2 ^ suc (length xs + k) ≡ m * 2 → cond b 1 0 + 2 * i < 2 ^ suc (length xs + k)
    with_bit false i m less e = omega arith
    with_bit true i m less e = omega arith

odd_bit : (b : Bool) (n : ℕ) → ((cond b 1 0 + 2 * n) % 2 == 1) ≡ b
odd_bit false n = let e : (0 + 2 * n) % 2 ≡ 0 = omega arith in ap (λ r. r == 1) e
odd_bit true n = let e : (1 + 2 * n) % 2 ≡ 1 = omega arith in ap (λ r. r == 1) e

half : (b : Bool) (n : ℕ) → (cond b 1 0 + 2 * n) / 2 ≡ n
half false n = omega arith
half true n = omega arith

-- what holds of a kind with these masks
abbrev mask_in : List Expr → (Expr → Bool) → Option Expr → Bool
mask_in masks holds None = true
mask_in masks holds (Some x) = list_any (λ y. same_expr y x) masks && holds x

bit-some : (n : ℕ) (holds : Expr → Bool) (masks : List Expr) (x : Expr) → has_bit masks (bits_before n holds masks) (Some x) ≡ (list_any (λ y. same_expr y x) masks && holds x)
bit-some n holds [] x = refl
bit-some n holds (y ∷ ys) x = by_test (bit-some n holds ys x) (same_expr y x) refl where
  by_test : has_bit ys (bits_before n holds ys) (Some x) ≡ (list_any (λ z. same_expr z x) ys && holds x) → (t : Bool) → same_expr y x ≡ t
      → cond t ((cond (holds y) 1 0 + 2 * bits_before n holds ys) % 2 == 1) (has_bit ys ((cond (holds y) 1 0 + 2 * bits_before n holds ys) / 2) (Some x)) ≡ ((t || list_any (λ z. same_expr z x) ys) && holds x)
  by_test rest true p = odd_bit (holds y) (bits_before n holds ys) ∙ ap holds (expr-same y x p)
  by_test rest false p = ap (λ k. has_bit ys k (Some x)) (half (holds y) (bits_before n holds ys)) ∙ rest

bit-mask : (n : ℕ) (holds : Expr → Bool) (masks : List Expr) (mask : Option Expr) → has_bit masks (bits_before n holds masks) mask ≡ mask_in masks holds mask
bit-mask n holds masks None = refl
bit-mask n holds masks (Some x) = bit-some n holds masks x

behind-bits : (n : ℕ) (holds : Expr → Bool) (masks : List Expr) → behind masks (bits_before n holds masks) ≡ n
behind-bits n holds [] = refl
behind-bits n holds (x ∷ xs) = ap (behind xs) (half (holds x) (bits_before n holds xs)) ∙ behind-bits n holds xs

-- ---- a point's number

abbrev passes : List Value → Point → Expr → Bool
passes params p x = mask_holds (Some x) params p

pub composite-below : (masks : List Expr) (params fields : List Value) → composite_bits masks params fields < symbols_apart masks
composite-below masks params fields =
    let one : 0 < 2 ^ 0 = omega arith in
    let none : length masks + 0 ≡ length masks = omega arith in
    subst (λ k. composite_bits masks params fields < 2 ^ k) none (number-below 0 0 one (λ x. composite_holds x params fields) masks)

-- what a row of the point's kind says of a leaf
abbrev says : List MaskedKind → Kind → (Expr → Bool) → Kind → Option Expr → Bool
says [] k holds kind mask = false
says (row ∷ rest) k holds kind mask = cond (same_kind row.kind k) (same_kind row.kind kind && mask_in row.masks holds mask) (says rest k holds kind mask)

module _ (masks : List Expr) (params : List Value) (p : Point) where
  abbrev whole : ℕ
  whole = composite_bits masks params p.fields

  abbrev bits : MaskedKind → ℕ
  bits row = bits_before whole (passes params p) row.masks

  -- a number among the symbols of rows, or none where no row is of the point's kind
  abbrev Numbered : List MaskedKind → Option ℕ → Type 0
  Numbered rows None = (kind : Kind) (mask : Option Expr) → says rows p.kind (passes params p) kind mask ≡ false
  Numbered rows (Some n) =
      (n < sum_by (symbols_in masks) rows)
      × ((kind : Kind) (mask : Option Expr) → holds_in masks rows n (OfLeaf kind mask) ≡ says rows p.kind (passes params p) kind mask)
      × ((x : Expr) → holds_in masks rows n (OfEvent x) ≡ has_bit masks whole (Some x))

  numbered : (rows : List MaskedKind) → Numbered rows (number_in masks rows params p)
  numbered [] = λ kind mask. refl
  numbered (row ∷ rest) = by_test (number_in masks rest params p) (numbered rest) (same_kind row.kind p.kind) refl where
    first : same_kind row.kind p.kind ≡ true → Numbered (row ∷ rest) (Some (bits row))
    first q =
        let below : bits row < 2 ^ (length row.masks + length masks) = number-below whole (length masks) (composite-below masks params p.fields) (passes params p) row.masks in (
          omega (arith, below, sum_by-cons (symbols_in masks) row rest),
          λ kind mask.
              ap (λ t. cond t (same_kind row.kind kind && has_bit row.masks (bits row) mask) (holds_in masks rest (bits row - symbols_in masks row) (OfLeaf kind mask))) (lt-ltb _ _ below)
              ∙ ap (λ b. same_kind row.kind kind && b) (bit-mask whole (passes params p) row.masks mask)
              ∙ sym (ap (λ t. cond t (same_kind row.kind kind && mask_in row.masks (passes params p) mask) (says rest p.kind (passes params p) kind mask)) q),
          λ x.
              ap (λ t. cond t (has_bit masks (behind row.masks (bits row)) (Some x)) (holds_in masks rest (bits row - symbols_in masks row) (OfEvent x))) (lt-ltb _ _ below)
              ∙ ap (λ n. has_bit masks n (Some x)) (behind-bits whole (passes params p) row.masks),
        )

    later : (o : Option ℕ) → Numbered rest o → same_kind row.kind p.kind ≡ false → Numbered (row ∷ rest) (option_map (λ n. symbols_in masks row + n) o)
    later None h q = λ kind mask. ap (λ t. cond t (same_kind row.kind kind && mask_in row.masks (passes params p) mask) (says rest p.kind (passes params p) kind mask)) q ∙ h kind mask
    later (Some n) h q =
        let back : (symbols_in masks row + n) - symbols_in masks row ≡ n = omega arith in
        let beyond : symbols_in masks row ≤ symbols_in masks row + n = omega arith in (
          omega (arith, h.0, sum_by-cons (symbols_in masks) row rest),
          λ kind mask.
              ap (λ t. cond t (same_kind row.kind kind && has_bit row.masks (symbols_in masks row + n) mask) (holds_in masks rest ((symbols_in masks row + n) - symbols_in masks row) (OfLeaf kind mask))) (le-ltb _ _ beyond)
              ∙ ap (λ j. holds_in masks rest j (OfLeaf kind mask)) back
              ∙ h.1 kind mask
              ∙ sym (ap (λ t. cond t (same_kind row.kind kind && mask_in row.masks (passes params p) mask) (says rest p.kind (passes params p) kind mask)) q),
          λ x.
              ap (λ t. cond t (has_bit masks (behind row.masks (symbols_in masks row + n)) (Some x)) (holds_in masks rest ((symbols_in masks row + n) - symbols_in masks row) (OfEvent x))) (le-ltb _ _ beyond)
              ∙ ap (λ j. holds_in masks rest j (OfEvent x)) back
              ∙ h.2 x,
        )

    by_test : (o : Option ℕ) → Numbered rest o → (t : Bool) → same_kind row.kind p.kind ≡ t
        → Numbered (row ∷ rest) (cond t (Some (bits row)) (option_map (λ n. symbols_in masks row + n) o))
    by_test o h true q = first q
    by_test o h false q = later o h q

-- ---- the rows of an expression's leaves

or_more : (u rest z : Bool) → (u || rest) ≡ true → (rest ≡ true → z ≡ true) → (u || z) ≡ true
or_more true rest z h k = refl
or_more false rest z h k = k h

says-rows : (ls : List Leaf) (ks : List Kind) (k : Kind) (holds : Expr → Bool) (kind : Kind) (mask : Option Expr)
    → says (map (masked_kind ls) ks) k holds kind mask ≡ (list_any (λ j. same_kind j k) ks && (same_kind k kind && mask_in (masked_kind ls k).masks holds mask))
says-rows ls [] k holds kind mask = refl
says-rows ls (j ∷ js) k holds kind mask = by_test (says-rows ls js k holds kind mask) (same_kind j k) refl where
  by_test : says (map (masked_kind ls) js) k holds kind mask ≡ (list_any (λ i. same_kind i k) js && (same_kind k kind && mask_in (masked_kind ls k).masks holds mask)) → (t : Bool) → same_kind j k ≡ t
      → cond t (same_kind j kind && mask_in (masked_kind ls j).masks holds mask) (says (map (masked_kind ls) js) k holds kind mask)
      ≡ ((t || list_any (λ i. same_kind i k) js) && (same_kind k kind && mask_in (masked_kind ls k).masks holds mask))
  by_test rest true p = ap (λ i. same_kind i kind && mask_in (masked_kind ls i).masks holds mask) (kind-same j k p)
  by_test rest false p = rest

-- whether a leaf is among these
abbrev leaf_among : List Leaf → Kind → Option Expr → Bool
leaf_among ls kind mask = list_any (λ (l : Leaf). same_kind l.0 kind && same_mask l.1 mask) ls

-- a leaf's kind is among the kinds, and its mask among its kind's masks
kind_among : (ls : List Leaf) (kind : Kind) (mask : Option Expr) → leaf_among ls kind mask ≡ true → list_any (λ j. same_kind j kind) (map (λ (l : Leaf). l.0) ls) ≡ true
kind_among [] kind mask h = cc
kind_among (l ∷ ls) kind mask h = by_test (same_kind l.0 kind) (same_mask l.1 mask) (kind_among ls kind mask) h where
  by_test : (t u : Bool) → (leaf_among ls kind mask ≡ true → list_any (λ j. same_kind j kind) (map (λ (x : Leaf). x.0) ls) ≡ true) → ((t && u) || leaf_among ls kind mask) ≡ true
      → (t || list_any (λ j. same_kind j kind) (map (λ (x : Leaf). x.0) ls)) ≡ true
  by_test true u rest q = refl
  by_test false u rest q = rest q

mask_among : (ls : List Leaf) (kind : Kind) (x : Expr) → leaf_among ls kind (Some x) ≡ true → list_any (λ y. same_expr y x) (filter_map (mask_of kind) ls) ≡ true
mask_among [] kind x h = cc
mask_among (l ∷ ls) kind x h = by_test (same_kind l.0 kind) l.1 (filter_map (mask_of kind) ls) (mask_among ls kind x) h where
  by_test : (t : Bool) (m : Option Expr) (ys : List Expr) → (leaf_among ls kind (Some x) ≡ true → list_any (λ y. same_expr y x) ys ≡ true) → ((t && same_mask m (Some x)) || leaf_among ls kind (Some x)) ≡ true
      → list_any (λ y. same_expr y x) (cons_option (cond t m None) ys) ≡ true
  by_test false m ys rest q = rest q
  by_test true None ys rest q = rest q
  by_test true (Some y) ys rest q = or_more (same_expr y x) (leaf_among ls kind (Some x)) (list_any (λ z. same_expr z x) ys) q rest

abbrev holds_there : (Expr → Bool) → Option Expr → Bool
holds_there holds None = true
holds_there holds (Some x) = holds x

mask-there : (ls : List Leaf) (kind : Kind) (holds : Expr → Bool) (mask : Option Expr) → leaf_among ls kind mask ≡ true → mask_in (masked_kind ls kind).masks holds mask ≡ holds_there holds mask
mask-there ls kind holds None h = refl
mask-there ls kind holds (Some x) h = ap (λ b. b && holds x) (distinct-any same_expr expr-same x (filter_map (mask_of kind) ls) ∙ mask_among ls kind x h)

-- what the rows say of a leaf
says-leaf : (ls : List Leaf) (k : Kind) (holds : Expr → Bool) (kind : Kind) (mask : Option Expr)
    → (leaf_among ls kind mask && says (masked_kinds ls) k holds kind mask) ≡ (leaf_among ls kind mask && (same_kind k kind && holds_there holds mask))
says-leaf ls k holds kind mask = by_leaf (leaf_among ls kind mask) refl where
  by_kind : leaf_among ls kind mask ≡ true → (t : Bool) → same_kind k kind ≡ t
      → (list_any (λ j. same_kind j k) (distinct same_kind (map (λ (l : Leaf). l.0) ls)) && (t && mask_in (masked_kind ls k).masks holds mask)) ≡ (t && holds_there holds mask)
  by_kind h false p = and-false (list_any (λ j. same_kind j k) (distinct same_kind (map (λ (l : Leaf). l.0) ls)))
  by_kind h true p =
      let same : k ≡ kind = kind-same k kind p in
      let there : list_any (λ j. same_kind j k) (distinct same_kind (map (λ (l : Leaf). l.0) ls)) ≡ true =
      distinct-any same_kind kind-same k (map (λ (l : Leaf). l.0) ls) ∙ ap (λ i. list_any (λ j. same_kind j i) (map (λ (l : Leaf). l.0) ls)) same ∙ kind_among ls kind mask h in
      ap (λ b. b && mask_in (masked_kind ls k).masks holds mask) there ∙ ap (λ i. mask_in (masked_kind ls i).masks holds mask) same ∙ mask-there ls kind holds mask h

  by_leaf : (t : Bool) → leaf_among ls kind mask ≡ t → (t && says (masked_kinds ls) k holds kind mask) ≡ (t && (same_kind k kind && holds_there holds mask))
  by_leaf false h = refl
  by_leaf true h = says-rows ls (distinct same_kind (map (λ (l : Leaf). l.0) ls)) k holds kind mask ∙ by_kind h (same_kind k kind) refl

-- ---- the law

there-is : (params : List Value) (p : Point) (mask : Option Expr) → holds_there (passes params p) mask ≡ mask_holds mask params p
there-is params p None = refl
there-is params p (Some x) = refl

module _ (cs : Conditions) (params : List Value) (p : Point) where
  abbrev a : Alphabet
  a = alphabet_of cs

  abbrev Here : Option ℕ → Type 0
  Here = Numbered a.masks params p a.kinds

  -- the symbol behind so many of the first
  abbrev place : Option ℕ → ℕ
  place o = option_map_or (λ n. symbols_apart a.masks + n) o (composite_bits a.masks params p.fields)

  here : Here (number_in a.masks a.kinds params p)
  here = numbered a.masks params p a.kinds

  below-at : (o : Option ℕ) → Here o → place o < size_of a
  below-at None h = omega (arith, composite-below a.masks params p.fields)
  below-at (Some n) h = omega (arith, h.0)

  pub symbol-among-below : symbol_among a params p < size_of a
  symbol-among-below = below-at (number_in a.masks a.kinds params p) here

  -- what the rows say of a leaf, and what the composite bits say of a mask
  leaf-told : (kind : Kind) (mask : Option Expr) → (among cs (OfLeaf kind mask) && says a.kinds p.kind (passes params p) kind mask) ≡ mark_of cs params p (OfLeaf kind mask)
  leaf-told kind mask =
      says-leaf cs.leaves p.kind (passes params p) kind mask ∙ ap (λ b. among cs (OfLeaf kind mask) && (same_kind p.kind kind && b)) (there-is params p mask)

  mask-told : (x : Expr) → (among cs (OfEvent x) && has_bit a.masks (composite_bits a.masks params p.fields) (Some x)) ≡ mark_of cs params p (OfEvent x)
  mask-told x = ap (λ b. among cs (OfEvent x) && b) (bit-some 0 (λ y. composite_holds y params p.fields) a.masks x ∙ ap (λ b. b && composite_holds x params p.fields) (distinct-any same_expr expr-same x cs.masks)) ∙ and_twice (among cs (OfEvent x)) (composite_holds x params p.fields) where
    and_twice : (t u : Bool) → (t && (t && u)) ≡ (t && u)
    and_twice true u = refl
    and_twice false u = refl

  first-below : nat_lt (composite_bits a.masks params p.fields) (symbols_apart a.masks) ≡ true
  first-below = lt-ltb _ _ (composite-below a.masks params p.fields)

  later-beyond : (n : ℕ) → nat_lt (symbols_apart a.masks + n) (symbols_apart a.masks) ≡ false
  later-beyond n = let beyond : symbols_apart a.masks ≤ symbols_apart a.masks + n = omega arith in le-ltb _ _ beyond

  later-back : (n : ℕ) → (symbols_apart a.masks + n) - symbols_apart a.masks ≡ n
  later-back n = omega arith

  mark-at : (o : Option ℕ) → Here o → (c : Condition) → symbol_mark_of cs (place o) c ≡ mark_of cs params p c
  mark-at None h (OfLeaf kind mask) =
      ap (λ t. among cs (OfLeaf kind mask) && cond t false (holds_in a.masks a.kinds (place None - symbols_apart a.masks) (OfLeaf kind mask))) first-below
      ∙ ap (λ b. among cs (OfLeaf kind mask) && b) (sym (h kind mask))
      ∙ leaf-told kind mask
  mark-at None h (OfEvent x) =
      ap (λ t. among cs (OfEvent x) && cond t (has_bit a.masks (place None) (Some x)) (holds_in a.masks a.kinds (place None - symbols_apart a.masks) (OfEvent x))) first-below
      ∙ mask-told x
  mark-at (Some n) h (OfLeaf kind mask) =
      ap (λ t. among cs (OfLeaf kind mask) && cond t false (holds_in a.masks a.kinds (place (Some n) - symbols_apart a.masks) (OfLeaf kind mask))) (later-beyond n)
      ∙ ap (λ j. among cs (OfLeaf kind mask) && holds_in a.masks a.kinds j (OfLeaf kind mask)) (later-back n)
      ∙ ap (λ b. among cs (OfLeaf kind mask) && b) (h.1 kind mask)
      ∙ leaf-told kind mask
  mark-at (Some n) h (OfEvent x) =
      ap (λ t. among cs (OfEvent x) && cond t (has_bit a.masks (place (Some n)) (Some x)) (holds_in a.masks a.kinds (place (Some n) - symbols_apart a.masks) (OfEvent x))) (later-beyond n)
      ∙ ap (λ j. among cs (OfEvent x) && holds_in a.masks a.kinds j (OfEvent x)) (later-back n)
      ∙ ap (λ b. among cs (OfEvent x) && b) (h.2 x)
      ∙ mask-told x

  pub symbol_mark-of : (c : Condition) → symbol_mark_of cs (symbol_among a params p) c ≡ mark_of cs params p c
  symbol_mark-of = mark-at (number_in a.masks a.kinds params p) here

pub symbol-below : (e : EventExpr) (params : List Value) (p : Point) → symbol e params p < symbol_count e
symbol-below e params p = symbol-among-below (conditions e) params p

pub symbol_mark-symbol : (e : EventExpr) (params : List Value) (p : Point) → symbol_mark e (symbol e params p) ≡ mark e params p
symbol_mark-symbol e params p = λ i c. symbol_mark-of (conditions e) params p c i
