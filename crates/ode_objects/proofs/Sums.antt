-- Sums that are capped.
use Rattle.std.proofs.Common.{◌≡◌, ◌+◌, ℕ, List, ◌∷◌, arith}
use Rattle.std.proofs.lemmas.List.Sums.{sum_by-cons}
use Rattle.std.specs.List.{sum_by}
use Rattle.ode_objects.specs.Weights.{capped}

pub capped_cons : {X : Type 0} (f : X → ℕ) (x : X) (xs : List X) → capped (capped (sum_by f xs) + capped (f x)) ≡ capped (sum_by f (x ∷ xs))
capped_cons f x xs = omega (arith, sum_by-cons f x xs)
