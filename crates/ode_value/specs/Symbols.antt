-- The alphabet of an event expression: the marks that a point can have, numbered.
use Rattle.std.specs.Prelude.{ℕ, ◌+◌, ◌*◌, ◌-◌, ◌/◌, ◌%◌, ◌^◌, ◌==◌, nat_lt, Bool, true, false, cond, not, ◌&&◌, List, [], ◌∷◌, map, filter, filter_map, length, sum_by, Option, Some, None, option_map}
use Rattle.std.specs.Option.{option_map_or}
use Rattle.ode_value.specs.declared.event.EventExpr.{EventExpr}
use Rattle.ode_value.specs.declared.event.Kind.{Kind}
use Rattle.ode_value.specs.declared.event.Point.{Point}
use Rattle.ode_value.specs.declared.statement.Expr.{Expr}
use Rattle.ode_value.specs.declared.value.Value.{Value}
use Rattle.ode_value.specs.Marks.{Conditions, Leaf, Mark, OfEvent, OfLeaf, among, conditions}
use Rattle.ode_value.specs.Masks.{composite_holds, mask_holds}
use Rattle.ode_value.specs.Same.{same_kind, same_expr}

-- each member once, at its first place
abbrev pub distinct : {A : Type 0} → (A → A → Bool) → List A → List A
distinct same [] = []
distinct same (x ∷ xs) = x ∷ filter (λ y. not (same x y)) (distinct same xs)

-- a kind, with the masks of its masked leaves
pub record MaskedKind : Type 0 where
  pub kind : Kind
  pub masks : List Expr

abbrev pub mask_of : Kind → Leaf → Option Expr
mask_of kind l = cond (same_kind l.0 kind) l.1 None

abbrev pub masked_kind : List Leaf → Kind → MaskedKind
masked_kind ls kind = record { kind = kind; masks = distinct same_expr (filter_map (mask_of kind) ls) }

-- the kinds, in the order of their first leaf, each with its masks, in the order of their first place
abbrev pub masked_kinds : List Leaf → List MaskedKind
masked_kinds ls = map (masked_kind ls) (distinct same_kind (map (λ (l : Leaf). l.0) ls))

-- what the symbols tell apart: the kinds, and the masks on composite events, in the order of their first place
pub record Alphabet : Type 0 where
  pub kinds : List MaskedKind
  pub masks : List Expr

abbrev pub alphabet_of : Conditions → Alphabet
alphabet_of cs = record { kinds = masked_kinds cs.leaves; masks = distinct same_expr cs.masks }

abbrev pub alphabet : EventExpr → Alphabet
alphabet e = alphabet_of (conditions e)

-- The first symbols are those of points of none of the kinds, one for each set of the masks on composite events. Then each kind has
-- a symbol for each set of these and its own masks.
abbrev pub symbols_apart : List Expr → ℕ
symbols_apart masks = 2 ^ length masks

abbrev pub symbols_in : List Expr → MaskedKind → ℕ
symbols_in masks row = 2 ^ (length row.masks + length masks)

abbrev pub size_of : Alphabet → ℕ
size_of a = symbols_apart a.masks + sum_by (symbols_in a.masks) a.kinds

abbrev pub symbol_count : EventExpr → ℕ
symbol_count e = size_of (alphabet e)

-- the sum of 2^i over the masks that hold, i their place; behind their bits a number goes on
abbrev pub bits_before : ℕ → (Expr → Bool) → List Expr → ℕ
bits_before n holds [] = n
bits_before n holds (x ∷ xs) = cond (holds x) 1 0 + 2 * bits_before n holds xs

abbrev pub composite_bits : List Expr → List Value → List Value → ℕ
composite_bits masks params fields = bits_before 0 (λ x. composite_holds x params fields) masks

-- the number of a point among the symbols of these kinds
abbrev pub number_in : List Expr → List MaskedKind → List Value → Point → Option ℕ
number_in masks [] params p = None
number_in masks (row ∷ rest) params p =
    cond (same_kind row.kind p.kind)
    (Some (bits_before (composite_bits masks params p.fields) (λ x. mask_holds (Some x) params p) row.masks))
    (option_map (λ n. symbols_in masks row + n) (number_in masks rest params p))

-- the symbol of a point, with the arguments of the trigger
abbrev pub symbol_among : Alphabet → List Value → Point → ℕ
symbol_among a params p = option_map_or (λ n. symbols_apart a.masks + n) (number_in a.masks a.kinds params p) (composite_bits a.masks params p.fields)

abbrev pub symbol : EventExpr → List Value → Point → ℕ
symbol e = symbol_among (alphabet e)

-- a mask's bit in a number; a leaf without a mask holds in each
abbrev pub has_bit : List Expr → ℕ → Option Expr → Bool
has_bit masks n None = true
has_bit [] n (Some x) = false
has_bit (y ∷ ys) n (Some x) = cond (same_expr y x) (n % 2 == 1) (has_bit ys (n / 2) (Some x))

-- how a number goes on behind the bits of masks
abbrev pub behind : List Expr → ℕ → ℕ
behind [] n = n
behind (x ∷ xs) n = behind xs (n / 2)

-- what holds at a number among the first symbols, and among those of a kind
abbrev pub holds_apart : List Expr → ℕ → Mark
holds_apart masks n (OfLeaf kind mask) = false
holds_apart masks n (OfEvent mask) = has_bit masks n (Some mask)

abbrev pub holds_of : List Expr → MaskedKind → ℕ → Mark
holds_of masks row n (OfLeaf kind mask) = same_kind row.kind kind && has_bit row.masks n mask
holds_of masks row n (OfEvent mask) = has_bit masks (behind row.masks n) (Some mask)

abbrev pub holds_in : List Expr → List MaskedKind → ℕ → Mark
holds_in masks [] n c = false
holds_in masks (row ∷ rest) n c = cond (nat_lt n (symbols_in masks row)) (holds_of masks row n c) (holds_in masks rest (n - symbols_in masks row) c)

-- the mark of a symbol, of conditions that are among the alphabet's
abbrev pub mark_among : Alphabet → ℕ → Mark
mark_among a n c = cond (nat_lt n (symbols_apart a.masks)) (holds_apart a.masks n c) (holds_in a.masks a.kinds (n - symbols_apart a.masks) c)

abbrev pub symbol_mark_of : Conditions → ℕ → Mark
symbol_mark_of cs n c = among cs c && mark_among (alphabet_of cs) n c

abbrev pub symbol_mark : EventExpr → ℕ → Mark
symbol_mark e = symbol_mark_of (conditions e)
