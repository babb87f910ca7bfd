-- A slot that there isn't.
use Rattle.std.proofs.Common.{◌≡◌, ◌≤◌, ℕ, zero, suc, List, [], ◌∷◌, length, refl, ap, arith}
use Rattle.std.specs.List.{slice_set}

pub set_past : {X : Type 0} (xs : List X) (at : ℕ) (x : X) → length xs ≤ at → slice_set xs at x ≡ xs
set_past [] at x past = refl
set_past (y ∷ ys) zero x past = absurd (omega (arith, past))
set_past (y ∷ ys) (suc at) x past = let less : length ys ≤ at = omega (arith, past) in ap (λ l. y ∷ l) (set_past ys at x less)
