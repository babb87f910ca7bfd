-- What waits while the front entry runs.
use Rattle.std.proofs.Common.{◌≡◌, ◌≤◌, ◌+◌, ◌==◌, ℕ, List, [], ◌∷◌, map, not, cond, true, false, refl, ap, subst, ◌∙◌, arith}
use Rattle.std.proofs.lemmas.Bool.Decides.{nat_tests}
use Rattle.std.specs.List.{filter}
use Rattle.ode_value.specs.GoodWorlds.{RiseFrom}
use Rattle.ode_value.specs.Posting.{waiting}
use Rattle.ode_value.specs.Transactions.{Queue}
use Rattle.ode_value.specs.Worlds.{Entry}

abbrev number : ℕ × Entry → ℕ
number q = q.0

-- those with greater numbers stay
above_stay : (n low : ℕ) (qs : List (ℕ × Entry)) → n + 1 ≤ low → RiseFrom low (map number qs) → filter (λ (q : ℕ × Entry). not (q.0 == n)) qs ≡ qs
above_stay n low [] less rise = refl
above_stay n low (q ∷ qs) less rise =
    let up : low ≤ q.0 = rise.0 in
    let other : (q.0 == n) ≡ false = grind (arith, nat_tests) in
    ap (λ b. cond (not b) (q ∷ filter (λ (p : ℕ × Entry). not (p.0 == n)) qs) (filter (λ (p : ℕ × Entry). not (p.0 == n)) qs)) other
    ∙ ap (λ ps. q ∷ ps) (above_stay n (q.0 + 1) qs (omega arith) rise.1)

pub front_runs : (q : ℕ × Entry) (more queue : List (ℕ × Entry)) (generation : ℕ) → RiseFrom 0 (map number queue) → queue ≡ q ∷ more → waiting (Queue q.0 generation) queue ≡ more
front_runs q more queue generation rise is =
    let rises : RiseFrom 0 (map number (q ∷ more)) = subst (λ ps. RiseFrom 0 (map number ps)) is rise in
    let same : (q.0 == q.0) ≡ true = grind (arith, nat_tests) in
    ap (waiting (Queue q.0 generation)) is
    ∙ ap (λ b. cond (not b) (q ∷ filter (λ (p : ℕ × Entry). not (p.0 == q.0)) more) (filter (λ (p : ℕ × Entry). not (p.0 == q.0)) more)) same
    ∙ above_stay q.0 (q.0 + 1) more (omega arith) rises.1
