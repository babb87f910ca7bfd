-- The values of several expressions, behind those that are known.
use Rattle.std.proofs.Common.{◌≡◌, ℕ, List, [], ◌∷◌, ◌++◌, refl, ap, append_assoc}
use Rattle.std.proofs.lemmas.List.{append-nil}
use Rattle.ode_value.specs.declared.reason.Reason.{Reason}
use Rattle.ode_value.specs.declared.statement.Expr.{Expr}
use Rattle.ode_value.specs.declared.value.Value.{Value}
use Rattle.ode_value.specs.Acts.{Outcome, Done, Aborted, go_on, gives}
use Rattle.ode_value.specs.Evaluation.{Frame}
use Rattle.ode_value.specs.Expressions.{evaluates, evaluates_all, evaluates_sets}
use Rattle.ode_value.specs.Transactions.{Tx}

module _ {O A : Type 0} where
  -- the values of the outcome, with these in front
  abbrev pub with_front : List Value → Outcome O A (List Value) → Outcome O A (List Value)
  with_front front o = go_on o (λ vs. gives (front ++ vs))

  one_more : (front : List Value) (v : Value) (o : Outcome O A (List Value)) → with_front front (go_on o (λ vs. gives (v ∷ vs))) ≡ with_front (front ++ v ∷ []) o
  one_more front v (Done vs x) = ap (λ (ws : List Value). Done ws x) (simp append_assoc)
  one_more front v (Aborted why x) = refl

  pub goes_on : (front : List Value) (e : Expr) (es : List Expr) (frame : Frame) (v : Value) (x y : Tx O A) → evaluates e frame x ≡ Done v y
      → with_front front (evaluates_all (e ∷ es) frame x) ≡ with_front (front ++ v ∷ []) (evaluates_all es frame y)
  goes_on front e es frame v x y h = rw h (one_more front v (evaluates_all es frame y))

  pub ends : (front : List Value) (e : Expr) (es : List Expr) (frame : Frame) (why : Reason) (x y : Tx O A) → evaluates e frame x ≡ Aborted why y
      → with_front front (evaluates_all (e ∷ es) frame x) ≡ Aborted why y
  ends front e es frame why x y h = rw h refl

  pub is_done : (front : List Value) (frame : Frame) (x : Tx O A) → with_front front (evaluates_all [] frame x) ≡ Done front x
  is_done front frame x = ap (λ (ws : List Value). Done ws x) (append-nil front)

  -- the same of fields that are set, by their names
  abbrev pub with_sets : List (List ℕ × Value) → Outcome O A (List (List ℕ × Value)) → Outcome O A (List (List ℕ × Value))
  with_sets front o = go_on o (λ sets. gives (front ++ sets))

  one_more_set : (front : List (List ℕ × Value)) (set : List ℕ × Value) (o : Outcome O A (List (List ℕ × Value)))
      → with_sets front (go_on o (λ sets. gives (set ∷ sets))) ≡ with_sets (front ++ set ∷ []) o
  one_more_set front set (Done sets x) = ap (λ (all : List (List ℕ × Value)). Done all x) (simp append_assoc)
  one_more_set front set (Aborted why x) = refl

  pub sets_go_on : (front : List (List ℕ × Value)) (set : List ℕ × Expr) (sets : List (List ℕ × Expr)) (frame : Frame) (v : Value) (x y : Tx O A)
      → evaluates set.1 frame x ≡ Done v y → with_sets front (evaluates_sets (set ∷ sets) frame x) ≡ with_sets (front ++ (set.0, v) ∷ []) (evaluates_sets sets frame y)
  sets_go_on front set sets frame v x y h = rw h (one_more_set front (set.0, v) (evaluates_sets sets frame y))

  pub sets_end : (front : List (List ℕ × Value)) (set : List ℕ × Expr) (sets : List (List ℕ × Expr)) (frame : Frame) (why : Reason) (x y : Tx O A)
      → evaluates set.1 frame x ≡ Aborted why y → with_sets front (evaluates_sets (set ∷ sets) frame x) ≡ Aborted why y
  sets_end front set sets frame why x y h = rw h refl

  pub sets_done : (front : List (List ℕ × Value)) (frame : Frame) (x : Tx O A) → with_sets front (evaluates_sets [] frame x) ≡ Done front x
  sets_done front frame x = ap (λ (all : List (List ℕ × Value)). Done all x) (append-nil front)
