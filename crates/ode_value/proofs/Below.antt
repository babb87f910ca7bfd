-- Tests of the numbers below a bound.
use Rattle.std.proofs.Common.{◌≡◌, ℕ, zero, suc, ◌+◌, ◌<◌, Bool, true, false, cond, refl, ap, ◌∙◌, arith}
use Rattle.std.specs.Prelude.{◌||◌, if◌then◌else◌}
use Rattle.ode_value.specs.Points.{some_below, count_below}

pub some_below-same : (p q : ℕ → Bool) (n : ℕ) → ((k : ℕ) → k < n → p k ≡ q k) → some_below p n ≡ some_below q n
some_below-same p q zero same = refl
some_below-same p q (suc n) same =
    ap (λ b. b || p n) (some_below-same p q n (λ k h. same k (omega arith))) ∙ ap (λ b. some_below q n || b) (same n (omega arith))

pub count_below-same : (p q : ℕ → Bool) (n : ℕ) → ((k : ℕ) → k < n → p k ≡ q k) → count_below p n ≡ count_below q n
count_below-same p q zero same = refl
count_below-same p q (suc n) same =
    ap (λ c. if p n then c + 1 else c) (count_below-same p q n (λ k h. same k (omega arith))) ∙ ap (λ b. if b then count_below q n + 1 else count_below q n) (same n (omega arith))

-- the first number apart
pub count_below-front : (p : ℕ → Bool) (n : ℕ) → count_below p (suc n) ≡ cond (p 0) 1 0 + count_below (λ k. p (suc k)) n
count_below-front p zero = by_first (p 0) where
  by_first : (t : Bool) → (if t then 0 + 1 else 0) ≡ cond t 1 0 + 0
  by_first true = refl
  by_first false = refl
count_below-front p (suc n) = by_last (p (suc n)) (count_below p (suc n)) (cond (p 0) 1 0) (count_below (λ k. p (suc k)) n) (count_below-front p n) where
  by_last : (t : Bool) (c x d : ℕ) → c ≡ x + d → (if t then c + 1 else c) ≡ x + (if t then d + 1 else d)
  by_last true c x d h = omega arith
  by_last false c x d h = h
