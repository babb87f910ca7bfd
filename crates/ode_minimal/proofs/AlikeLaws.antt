-- Alike states, and states that a word tells apart.
use Rattle.std.proofs.Common.{◌≡◌, ◌≢◌, ℕ, ◌<◌, ◌≤◌, Bool, true, false, List, [], ◌∷◌, ◌++◌, length, get_or, refl, sym, ◌∙◌, subst, arith, inl, inr, ◌⊎◌}
use Rattle.std.proofs.lemmas.Bool.{cases_lt, false≢true}
use Rattle.std.proofs.lemmas.List.{get_or_append_left, get_or_push, length_push}
use Rattle.std.proofs.lemmas.List.Elements.{All-cons}
use Rattle.ode_value.specs.Tables.{Table, next_state}
use Rattle.ode_minimal.specs.Minimal.{IsAlike, IsApart}

pub alike-trans : (t : Table) (p q r : ℕ) → IsAlike t p q → IsAlike t q r → IsAlike t p r
alike-trans t p q r h k = λ word is. h word is ∙ k word is

pub alike-sym : (t : Table) (p q : ℕ) → IsAlike t p q → IsAlike t q p
alike-sym t p q h = λ word is. sym (h word is)

pub alike-next : (t : Table) (p q s : ℕ) → s < t.symbols → IsAlike t p q → IsAlike t (next_state t p s) (next_state t q s)
alike-next t p q s below h = λ word is. h (s ∷ word) (All-cons (λ x. x < t.symbols) s word below is)

pub apart-back : (t : Table) (p q s : ℕ) → s < t.symbols → IsApart t (next_state t p s) (next_state t q s) → IsApart t p q
apart-back t p q s below apart = record {
  word = s ∷ apart.word;
  symbols = All-cons (λ x. x < t.symbols) s apart.word below apart.symbols;
  differs = apart.differs;
}

pub same_answer_or : (a b : Bool) → (a ≡ b) ⊎ (a ≢ b)
same_answer_or true true = inl refl
same_answer_or true false = inr (λ e. false≢true (sym e))
same_answer_or false true = inr (λ e. false≢true e)
same_answer_or false false = inl refl

-- a fact of each element, and of one more
pub push_each : {A : Type 0} (xs : List A) (y d : A) (P : A → ℕ → Type 0) → ((k : ℕ) → k < length xs → P (get_or xs k d) k) → P y (length xs) → (k : ℕ) → k < length (xs ++ y ∷ []) → P (get_or (xs ++ y ∷ []) k d) k
push_each xs y d P old new k within = by_place (cases_lt k (length xs)) where
  by_place : (k < length xs) ⊎ (length xs ≤ k) → P (get_or (xs ++ y ∷ []) k d) k
  by_place (inl before) = subst (λ w. P w k) (sym (get_or_append_left xs (y ∷ []) d k before)) (old k before)
  by_place (inr after) =
      let here : length xs ≡ k = omega (arith, length_push xs y) in
      subst (λ w. P w k) (sym (get_or_push xs y d k here)) (subst (λ j. P y j) here new)
