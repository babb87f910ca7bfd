-- The marks of an alphabet's symbols, as lists.
use Rattle.std.proofs.Common.{◌≡◌, ℕ, ◌+◌, Bool, List, length, length-append, map, ap, sym, ◌∙◌}
use Rattle.std.specs.Prelude.{All, slice_index_or}
use Rattle.std.specs.List.{range_with_len}
use Rattle.std.proofs.lemmas.List.{length-map}
use Rattle.std.proofs.lemmas.List.Elements.{All-map}
use Rattle.std.proofs.lemmas.List.FromFn.{length-map-range_with_len}
use Rattle.std.proofs.lemmas.Simd.{map-map}
use Rattle.ode_value.specs.declared.event.EventExpr.{EventExpr}
use Rattle.ode_value.specs.Marks.{Leaf, Mark, OfEvent, OfLeaf, composite_masks, leaves, spelled}
use Rattle.ode_value.specs.Symbols.{Alphabet, symbol_mark, symbol_count, alphabet, mark_among, size_of}
use Rattle.ode_value.specs.Tables.{Table, Means}
use Rattle.ode_value.specs.TreeCount.{symbol_marks}
use Rattle.ode_trees.specs.ListMachines.{condition_count}
use Rattle.ode_symbols.proofs.ConditionMarks.{spelled-mark}
use Rattle.ode_symbols.proofs.OwnConditions.{own-conditions}
use Rattle.ode_table.specs.Built.{IsBuilt, IsOver}

abbrev pub marks_in : Alphabet → List Mark
marks_in a = map (mark_among a) (range_with_len 0 (size_of a))

spelled-length : (e : EventExpr) (m : Mark) → length (spelled e m) ≡ condition_count e
spelled-length e m =
    length-append (map (λ (l : Leaf). m (OfLeaf l.0 l.1)) (leaves e)) (map (λ x. m (OfEvent x)) (composite_masks e))
    ∙ (λ i. length-map (leaves e) (λ (l : Leaf). m (OfLeaf l.0 l.1)) i + length-map (composite_masks e) (λ x. m (OfEvent x)) i)

pub lists-length : (e : EventExpr) (mark : ℕ → Mark) (symbols : List ℕ) → All (λ (list : List Bool). length list ≡ condition_count e) (map (λ s. spelled e (mark s)) symbols)
lists-length e mark symbols = All-map (λ (list : List Bool). length list ≡ condition_count e) (λ s. spelled e (mark s)) symbols (λ k d within. spelled-length e (mark (slice_index_or symbols k d)))

pub lists-in : (e : EventExpr) (a : Alphabet) → map (λ s. spelled e (mark_among a s)) (range_with_len 0 (size_of a)) ≡ map (spelled e) (marks_in a)
lists-in e a = sym (map-map (spelled e) (mark_among a) (range_with_len 0 (size_of a)))

pub marks_in-length : (a : Alphabet) → size_of a ≡ length (marks_in a)
marks_in-length a = sym (length-map-range_with_len (mark_among a) 0 (size_of a))

map-same : {A B : Type 0} (f g : A → B) → ((x : A) → f x ≡ g x) → (xs : List A) → map f xs ≡ map g xs
map-same f g h xs = λ i. map (λ x. h x i) xs

pub lists-of : (e of : EventExpr) (a : Alphabet) → IsOver e of a → map (λ s. spelled e (mark_among a s)) (range_with_len 0 (size_of a)) ≡ map (spelled e) (symbol_marks of)
lists-of e of a h =
    map-same (λ s. spelled e (mark_among a s)) (λ s. spelled e (symbol_mark of s)) (λ s. spelled-mark e of s a h.alphabet_is h.conditions) (range_with_len 0 (size_of a))
    ∙ ap (λ l. map (λ s. spelled e (symbol_mark of s)) (range_with_len 0 (size_of l))) h.alphabet_is
    ∙ sym (map-map (spelled e) (symbol_mark of) (range_with_len 0 (symbol_count of)))

pub size-of : (e of : EventExpr) (a : Alphabet) → IsOver e of a → size_of a ≡ symbol_count of
size-of e of a h = ap size_of h.alphabet_is

-- an expression's own alphabet
pub over-own : (e : EventExpr) (a : Alphabet) → a ≡ alphabet e → IsOver e e a
over-own e a h = record {
  alphabet_is = h;
  conditions = own-conditions e;
}

pub built-means : (e : EventExpr) (t : Table) → IsBuilt e e t → Means t e
built-means e t h = record {
  symbols = h.symbols;
  answers = h.answers;
}
