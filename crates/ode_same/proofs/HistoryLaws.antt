-- Expressions that differ on no word fire on the same histories.
use Rattle.std.proofs.Common.{◌≡◌, ◌≢◌, ℕ, ◌<◌, Bool, true, false, List, [], ◌∷◌, ◌++◌, length, map, refl, sym, ap, ◌∙◌, subst, arith, inl, inr, ◌⊎◌}
use Rattle.std.specs.Prelude.{fold, slice_index_or, ◌&&◌}
use Rattle.std.specs.List.{list_all}
use Rattle.std.proofs.lemmas.Bool.{and_parts, cases_Bool, false≢true}
use Rattle.std.proofs.lemmas.List.{length-map}
use Rattle.std.proofs.lemmas.List.Elements.{All-map}
use Rattle.std.proofs.lemmas.Simd.{map-map}
use Rattle.ode_value.specs.declared.event.EventExpr.{EventExpr}
use Rattle.ode_value.specs.declared.event.Point.{Point}
use Rattle.ode_value.specs.declared.tree.StateTree.{StateTree}
use Rattle.ode_value.specs.declared.value.Value.{Value}
use Rattle.ode_value.specs.Marks.{Condition, Leaf, Mark, OfEvent, OfLeaf, among, composite_masks, conditions, holds_at, leaves, mark, marks, spelled}
use Rattle.ode_value.specs.Points.{fires, fires_on}
use Rattle.ode_value.specs.Symbols.{symbol, symbol_count, symbol_mark}
use Rattle.ode_value.specs.Tables.{IsWord, word_marks}
use Rattle.ode_value.specs.Trees.{answers, first_tree, next_tree}
use Rattle.ode_value.specs.Views.{History}
use Rattle.ode_value.proofs.SymbolLaws.{symbol-below, symbol_mark-symbol}
use Rattle.ode_symbols.specs.Alphabets.{are_conditions_of}
use Rattle.ode_symbols.proofs.OwnConditions.{own-conditions}
use Rattle.ode_trees.specs.ListMachines.{next_listed, start}
use Rattle.ode_trees.proofs.ListMachineLaws.{next-spelled}
use Rattle.ode_trees.proofs.TreeAnswers.{answers-fires}
use Rattle.ode_same.specs.Differing.{Differ, either, fires_at}
use Rattle.ode_same.proofs.BothLaws.{first-conditions, second-conditions}

-- ---- an expression looks at its own conditions alone

module _ (e : EventExpr) (g k : Point → Mark) (same : (p : Point) → spelled e (g p) ≡ spelled e (k p)) where
  same-step : (p : Point) (s : StateTree) → next_tree e (g p) s ≡ next_tree e (k p) s
  same-step p s = ap (λ (next : StateTree → StateTree). next s) (sym (next-spelled e (g p)) ∙ ap (next_listed e (start e)) (same p) ∙ next-spelled e (k p))

  same-after : (h : List Point) (s : StateTree) → fold (λ s m. next_tree e m s) s (map g h) ≡ fold (λ s m. next_tree e m s) s (map k h)
  same-after [] s = refl
  same-after (p ∷ h) s = ap (λ t. fold (λ s m. next_tree e m s) t (map g h)) (same-step p s) ∙ same-after h (next_tree e (k p) s)

  same-fires : (h : List Point) → fires e (map g h) ≡ fires e (map k h)
  same-fires h = sym (answers-fires e (map g h)) ∙ ap (answers e) (same-after h (first_tree e)) ∙ answers-fires e (map k h)

held : (of : EventExpr) (params : List Value) (p : Point) (c : Condition) → among (conditions of) c ≡ true → mark of params p c ≡ holds_at params p c
held of params p c h = ap (λ b. b && holds_at params p c) h

held-each : {A : Type 0} (of : EventExpr) (params : List Value) (p : Point) (f : A → Condition) (xs : List A) → list_all (λ x. among (conditions of) (f x)) xs ≡ true
    → map (λ x. mark of params p (f x)) xs ≡ map (λ x. holds_at params p (f x)) xs
held-each of params p f [] h = refl
held-each of params p f (x ∷ xs) h =
    let both = and_parts (among (conditions of) (f x)) (list_all (λ y. among (conditions of) (f y)) xs) h in
    λ i. held of params p (f x) both.0 i ∷ held-each of params p f xs both.1 i

spelled-held : (e of : EventExpr) (params : List Value) (p : Point) → are_conditions_of e of ≡ true → spelled e (mark of params p) ≡ spelled e (holds_at params p)
spelled-held e of params p h =
    let both = and_parts (list_all (λ (l : Leaf). among (conditions of) (OfLeaf l.0 l.1)) (leaves e)) (list_all (λ x. among (conditions of) (OfEvent x)) (composite_masks e)) h in
    λ i. held-each of params p (λ (l : Leaf). OfLeaf l.0 l.1) (leaves e) both.0 i ++ held-each of params p (λ x. OfEvent x) (composite_masks e) both.1 i

-- the marks of more conditions are as good
marks-more : (e of : EventExpr) (params : List Value) (h : History) → are_conditions_of e of ≡ true → fires e (marks of params h) ≡ fires_on e params h
marks-more e of params h all =
    same-fires e (mark of params) (mark e params) (λ p. spelled-held e of params p all ∙ sym (spelled-held e e params p (own-conditions e))) h

-- ---- the word of a history

abbrev word-of : EventExpr → List Value → History → List ℕ
word-of of params h = map (symbol of params) h

word-marks : (of : EventExpr) (params : List Value) (h : History) → word_marks of (word-of of params h) ≡ marks of params h
word-marks of params h = map-map (symbol_mark of) (symbol of params) h ∙ (λ i. map (λ p. symbol_mark-symbol of params p i) h)

word-is : (of : EventExpr) (params : List Value) (h : History) → 0 < length h → IsWord (symbol_count of) (word-of of params h)
word-is of params h some = record {
  some = subst (λ n. 0 < n) (sym (length-map h (symbol of params))) some;
  each = All-map (λ s. s < symbol_count of) (symbol of params) h (λ k d within. symbol-below of params (slice_index_or h k d));
}

-- two bools that aren't different are equal
not-different : (a b : Bool) → (a ≢ b → ⊥) → a ≡ b
not-different a b h = by (cases_Bool a) (cases_Bool b) where
  by : (a ≡ true) ⊎ (a ≡ false) → (b ≡ true) ⊎ (b ≡ false) → a ≡ b
  by (inl x) (inl y) = x ∙ sym y
  by (inr x) (inr y) = x ∙ sym y
  by (inl x) (inr y) = absurd (h (λ same. false≢true (sym y ∙ sym same ∙ x)))
  by (inr x) (inl y) = absurd (h (λ same. false≢true (sym x ∙ same ∙ y)))

pub same-on-histories : (e f : EventExpr) → ((word : List ℕ) → Differ e f word → ⊥) → (params : List Value) (h : History) → fires_on e params h ≡ fires_on f params h
same-on-histories e f same params [] = refl
same-on-histories e f same params (p ∷ h) =
    let of = either e f in
    let all = p ∷ h in
    let word = word-of of params all in
    let alike : fires_at e of word ≡ fires_at f of word =
    not-different (fires_at e of word) (fires_at f of word) (λ differ. same word record { is_word = word-is of params all (omega arith); one_fires = differ }) in
    sym (ap (fires e) (word-marks of params all) ∙ marks-more e of params all (first-conditions e f)) ∙ alike ∙ ap (fires f) (word-marks of params all) ∙ marks-more f of params all (second-conditions e f)
