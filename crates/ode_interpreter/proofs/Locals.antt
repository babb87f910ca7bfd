-- A list in which a place is set, by where the place is.
use Rattle.std.proofs.Common.{◌≡◌, ℕ, zero, suc, ◌+◌, ◌<◌, ◌≤◌, List, [], ◌∷◌, ◌++◌, length, refl, sym, ap, ◌∙◌, arith}
use Rattle.std.proofs.lemmas.List.{length-append}
use Rattle.std.specs.Prelude.{slice_set}
use Rattle.ode_value.specs.declared.value.Value.{Value}
use Rattle.ode_value.specs.Classes.{null}
use Rattle.ode_value.specs.Evaluation.{set_at}

pub set_inside : (n : ℕ) (v : Value) (vs : List Value) → n < length vs → set_at n v vs ≡ slice_set vs n v
set_inside zero v [] h = absurd (omega (arith, h))
set_inside zero v (w ∷ ws) h = refl
set_inside (suc n) v [] h = absurd (omega (arith, h))
set_inside (suc n) v (w ∷ ws) h = let i : n < length ws = omega (arith, h) in ap (λ l. w ∷ l) (set_inside n v ws i)

set_behind : (n : ℕ) (v : Value) (vs : List Value) → length vs < n → set_at n v (vs ++ null ∷ []) ≡ set_at n v vs
set_behind zero v vs h = absurd (omega (arith, h))
set_behind (suc n) v [] h = refl
set_behind (suc n) v (w ∷ ws) h = let i : length ws < n = omega (arith, h) in ap (λ l. w ∷ l) (set_behind n v ws i)

at_end : (v : Value) (vs : List Value) → set_at (length vs) v vs ≡ vs ++ v ∷ []
at_end v [] = refl
at_end v (w ∷ ws) = ap (λ l. w ∷ l) (at_end v ws)

-- one more null before a place that is still behind the end
pub one_more : (vs ws : List Value) (w : Value) → ws ≡ vs ++ w ∷ [] → length ws ≡ length vs + 1
one_more vs ws w e = rw e (length-append vs (w ∷ []))

pub stays : (n : ℕ) (v w : Value) (vs ws us : List Value) → ws ≡ vs ++ w ∷ [] → w ≡ null → length vs < n → set_at n v vs ≡ set_at n v us
    → set_at n v ws ≡ set_at n v us
stays n v w vs ws us e is h before = rw (e, is) (set_behind n v vs h ∙ before)

-- the place is at the end
pub set_at_end : (n i m : ℕ) (v w : Value) (vs ws us : List Value) → ws ≡ vs ++ v ∷ [] → length vs ≡ i → n ≤ i → i ≤ n
    → set_at n v vs ≡ set_at n v us → n ≡ m → v ≡ w → ws ≡ set_at m w us
set_at_end n i m v w vs ws us e is lo hi before place value =
    let same : length vs ≡ n = omega (arith, is, lo, hi) in
    let put : ws ≡ set_at n v us = e ∙ sym (at_end v vs) ∙ ap (λ k. set_at k v vs) same ∙ before in
    put ∙ ap (λ k. set_at k v us) place ∙ ap (λ u. set_at m u us) value
