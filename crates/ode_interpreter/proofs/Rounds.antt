-- Rounds by one round.
use Rattle.std.proofs.Common.{◌≡◌, ℕ, zero, suc, ◌+◌, ◌-◌, ◌<◌, ◌≤◌, ap, subst, arith}
use Rattle.std.specs.Prelude.{slice_get}
use Rattle.ode_value.specs.Pasts.{Past}
use Rattle.ode_value.specs.Acts.{Done}
use Rattle.ode_value.specs.Completing.{goes_round, round}
use Rattle.ode_value.specs.Transactions.{Tx}

module _ {O A : Type 0} (past : Past O A) where
  next : (n : ℕ) (at ran : ℕ) (x : Tx O A) → 0 < n
      → goes_round past n at ran x ≡ round past (slice_get x.touched at) (slice_get x.deferred ran) at ran (goes_round past (n - 1)) x
  unfolding goes_round
  next zero at ran x h = absurd (omega arith)
  next (suc n) at ran x h = let e : n ≡ suc n - 1 = omega arith in ap (λ m. round past (slice_get x.touched at) (slice_get x.deferred ran) at ran (goes_round past m) x) e

  pub one_round : (n i : ℕ) (at ran : ℕ) (x : Tx O A) → i < n
      → goes_round past (n - i) at ran x ≡ round past (slice_get x.touched at) (slice_get x.deferred ran) at ran (goes_round past (n - (i + 1))) x
  one_round n i at ran x h =
      let e : n - i - 1 ≡ n - (i + 1) = omega arith in
      let below : 0 < n - i = omega arith in
      subst (λ (m : ℕ). goes_round past (n - i) at ran x ≡ round past (slice_get x.touched at) (slice_get x.deferred ran) at ran (goes_round past m) x) e (next (n - i) at ran x below)

  pub no_round : (n i : ℕ) (at ran : ℕ) (x : Tx O A) → n ≤ i → goes_round past (n - i) at ran x ≡ Done tt x
  unfolding goes_round
  no_round n i at ran x h = let e : n - i ≡ 0 = omega arith in ap (λ m. goes_round past m at ran x) e
