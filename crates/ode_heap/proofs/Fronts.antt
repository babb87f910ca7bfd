-- What a loop has collected, and what is left to collect.
use Rattle.std.proofs.Common.{◌≡◌, ℕ, ◌^◌, ◌≤◌, List, [], ◌∷◌, ◌++◌, false, cond, Err, refl, sym, ap, ◌∙◌, append_assoc, arith}
use Rattle.std.proofs.lemmas.List.{append-nil}
use Rattle.std.proofs.lemmas.Bool.Decides.{nat_tests}
use Rattle.ode_codec.specs.declared.record.Record.{Record}
use Rattle.ode_keep.specs.Entries.{Entries}
use Rattle.ode_value.specs.declared.key.Key.{Key}
use Rattle.ode_heap.specs.declared.error.HeapError.{HeapError}
use Rattle.ode_heap.specs.declared.error.HeapError.TheVariants as heap
use Rattle.ode_heap.specs.Answers.{Answers, Found, ◌>>=◌}
use Rattle.ode_heap.specs.Answers.{There, Broken}
use Rattle.ode_heap.specs.Walking.{block, collected, is_from, taken, with_front}

-- where one find breaks another does, an error that the first answers the second answers too
pub breaks_alike : {X Y : Type 0} (e : HeapError) (f : Found X) (g : Found Y) → ((k : Key) → f ≡ Broken k → g ≡ Broken k) → Answers {X = X} (Err e) f → Answers {X = Y} (Err e) g
breaks_alike heap.Memory f g alike answers = tt
breaks_alike heap.DiskFault f g alike answers = tt
breaks_alike (heap.TooLarge total) f g alike answers = absurd answers
breaks_alike (heap.Damaged k) f g alike answers = alike k answers

module _ (X : Type 0) (front : List X) (rest all : Found (List X)) (so_far : with_front front rest ≡ all) where
  pub nothing_left : rest ≡ There [] → all ≡ There front
  nothing_left none = sym so_far ∙ ap (with_front front) none ∙ ap (λ (xs : List X). There xs) (append-nil front)

  pub it_breaks : (k : Key) → rest ≡ Broken k → all ≡ Broken k
  it_breaks k broken = sym so_far ∙ ap (with_front front) broken

  one_more : (x : X) (more : Found (List X)) → with_front front (more >>= λ xs. There (x ∷ xs)) ≡ with_front (front ++ x ∷ []) more
  one_more x (There xs) = ap (λ (ys : List X). There ys) (simp append_assoc)
  one_more x (Broken k) = refl

  pub goes_further : (x : X) (found : Found X) (more : Found (List X)) → rest ≡ (found >>= λ y. more >>= λ xs. There (y ∷ xs)) → found ≡ There x → with_front (front ++ x ∷ []) more ≡ all
  goes_further x found more is there =
      sym (one_more x more) ∙ ap (λ (f : Found X). with_front front (f >>= λ y. more >>= λ xs. There (y ∷ xs))) (sym there) ∙ ap (with_front front) (sym is) ∙ so_far

  pub form_breaks : (k : Key) (found : Found X) (more : Found (List X)) → rest ≡ (found >>= λ y. more >>= λ xs. There (y ∷ xs)) → found ≡ Broken k → all ≡ Broken k
  form_breaks k found more is broken = it_breaks k (is ∙ ap (λ (f : Found X). f >>= λ y. more >>= λ xs. There (y ∷ xs)) broken)

-- behind the last number that a key can have there is nothing
past : (kind a n : ℕ) (k : Key) → 2 ^ 64 ≤ n → is_from kind a n k ≡ false
past kind a n k le = grind (arith, nat_tests)

pub none_past : {X : Type 0} (form : Key → Record → Found X) (kind a n : ℕ) (entries : Entries) → 2 ^ 64 ≤ n → block form kind a n entries ≡ There []
unfolding block
none_past form kind a n [] le = refl
none_past form kind a n (e ∷ es) le =
    ap (λ b. cond b (taken form e.0 e.1 >>= λ x. collected (is_from kind a n) (taken form) es >>= λ xs. There (x ∷ xs)) (collected (is_from kind a n) (taken form) es)) (past kind a n e.0 le)
    ∙ none_past form kind a n es le
