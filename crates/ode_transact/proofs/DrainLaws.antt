-- The drain, an entry at a time.
use Rattle.std.proofs.Common.{◌≡◌, ◌∙◌, ◌+◌, ◌-◌, ◌<◌, ℕ, suc, zero, List, [], ◌∷◌, ◌++◌, length, Bool, true, false, cond, ap, append_assoc, append-nil, arith, refl, sym}
use Rattle.std.specs.Prelude.{nat_lt}
use Rattle.ode_transact.specs.Drained.{IsDrained}
use Rattle.ode_value.specs.Draining.{drain, entry_settled, front, world_after}
use Rattle.ode_value.specs.Language.{ListWorld, Settlings}
use Rattle.ode_value.specs.Limits.{number_limit}
use Rattle.ode_value.specs.Objects.{Histories, Starts}
use Rattle.ode_value.specs.Pasts.{lists}
use Rattle.ode_value.specs.Settling.{Settled}
use Rattle.ode_value.specs.Worlds.{Entry}

-- ---- one entry

pub drained_one : (most : ℕ) (w : ListWorld) (q : ℕ × Entry) (more : List (ℕ × Entry)) → w.bones.queue ≡ q ∷ more → nat_lt w.bones.transaction number_limit ≡ true
    → drain lists (suc most) w ≡ entry_settled lists w q ∷ drain lists most (entry_settled lists w q).0
unfolding drain
drained_one most w q more is left =
    ap (λ (queue : List (ℕ × Entry)). front lists queue w (λ s. s ∷ drain lists most s.0)) is
    ∙ ap (λ (b : Bool). cond b (entry_settled lists w q ∷ drain lists most (entry_settled lists w q).0) []) left

-- or none: there is none, or no number is left
pub drained_empty : (most : ℕ) (w : ListWorld) → w.bones.queue ≡ [] → drain lists most w ≡ []
unfolding drain
drained_empty zero w is = refl
drained_empty (suc most) w is = ap (λ (queue : List (ℕ × Entry)). front lists queue w (λ s. s ∷ drain lists most s.0)) is

numberless : (queue : List (ℕ × Entry)) (most : ℕ) (w : ListWorld) → nat_lt w.bones.transaction number_limit ≡ false → front lists queue w (λ s. s ∷ drain lists most s.0) ≡ []
numberless [] most w none = refl
numberless (q ∷ queue) most w none = ap (λ (b : Bool). cond b (entry_settled lists w q ∷ drain lists most (entry_settled lists w q).0) []) none

pub drained_numberless : (most : ℕ) (w : ListWorld) → nat_lt w.bones.transaction number_limit ≡ false → drain lists most w ≡ []
unfolding drain
drained_numberless zero w none = refl
drained_numberless (suc most) w none = numberless w.bones.queue most w none

pub drained_no_more : (w : ListWorld) → drain lists 0 w ≡ []
unfolding drain
drained_no_more w = refl

-- ---- on the way

minus_zero : (n : ℕ) → n - 0 ≡ n
minus_zero n = omega arith

next_left : (most ran : ℕ) → ran < most → most - ran ≡ suc (most - (ran + 1))
next_left most ran less = omega (arith, less)

world_behind : (w : ListWorld) (settled : Settlings) (s : Settled Histories Starts) → world_after w (settled ++ s ∷ []) ≡ s.0
world_behind w [] s = refl
world_behind w (t ∷ settled) s = world_behind t.0 settled s

one_longer : (settled : Settlings) (s : Settled Histories Starts) → length (settled ++ s ∷ []) ≡ length settled + 1
one_longer [] s = refl
one_longer (t ∷ settled) s = let rest = one_longer settled s in omega (arith, rest)

pub nothing_drained : (most : ℕ) (w : ListWorld) → IsDrained most 0 w w []
nothing_drained most w = record { whole = ap (λ (n : ℕ). drain lists n w) (sym (minus_zero most)); world = refl; count = refl }

pub one_more_drained : (most ran : ℕ) (first now : ListWorld) (settled : Settlings) (q : ℕ × Entry) (more : List (ℕ × Entry)) → ran < most → IsDrained most ran first now settled → now.bones.queue ≡ q ∷ more
    → nat_lt now.bones.transaction number_limit ≡ true → IsDrained most (ran + 1) first (entry_settled lists now q).0 (settled ++ entry_settled lists now q ∷ [])
one_more_drained most ran first now settled q more less is front left =
    let s : Settled Histories Starts = entry_settled lists now q in
    record {
      whole = is.whole ∙ ap (λ (rest : Settlings). settled ++ rest) (ap (λ (n : ℕ). drain lists n now) (next_left most ran less) ∙ drained_one (most - (ran + 1)) now q more front left)
          ∙ sym (append_assoc settled (s ∷ []) (drain lists (most - (ran + 1)) s.0));
      world = world_behind first settled s;
      count = one_longer settled s ∙ ap (λ (n : ℕ). n + 1) is.count;
    }

-- where nothing more runs, that is all
pub all_drained : (most ran : ℕ) (first now : ListWorld) (settled : Settlings) → IsDrained most ran first now settled → drain lists (most - ran) now ≡ [] → drain lists most first ≡ settled
all_drained most ran first now settled is none = is.whole ∙ ap (λ (rest : Settlings). settled ++ rest) none ∙ append-nil settled
