-- Objects by rising numbers, from a number on.
use Rattle.std.proofs.Common.{◌≡◌, ◌≤◌, ◌<◌, ◌∙◌, ℕ, ◌+◌, List, [], ◌∷◌, map, Bool, true, false, cond, Option, Some, None, refl, sym, ap, subst, arith}
use Rattle.std.proofs.lemmas.Bool.Decides.{nat_tests}
use Rattle.std.specs.List.{find}
use Rattle.std.specs.Prelude.{◌==◌, nat_le}
use Rattle.ode_value.specs.Denoting.{object_numbered}
use Rattle.ode_value.specs.GoodWorlds.{RiseFrom}
use Rattle.ode_value.specs.Worlds.{Object}

abbrev pub numbers_in : List Object → List ℕ
numbers_in os = map (λ (o : Object). o.id) os

-- the first one from a number on, and all of them
abbrev pub first_from : ℕ → List Object → Option Object
first_from n os = find (λ (o : Object). nat_le n o.id) os

abbrev pub all_from : ℕ → List Object → List Object
all_from n [] = []
all_from n (o ∷ os) = cond (nat_le n o.id) (o ∷ os) (all_from n os)

is_low : (m n : ℕ) → m ≤ n → nat_le m n ≡ true
is_low m n low = grind (arith, nat_tests)

is_high : (m n : ℕ) → n < m → nat_le m n ≡ false
is_high m n high = grind (arith, nat_tests)

low_is : (m n : ℕ) → nat_le m n ≡ true → m ≤ n
low_is m n is = grind (arith, nat_tests)

high_is : (m n : ℕ) → nat_le m n ≡ false → n < m
high_is m n is = grind (arith, nat_tests)

other : (m n : ℕ) → m < n → (m == n) ≡ false
other m n less = grind (arith, nat_tests)

same : (n : ℕ) → (n == n) ≡ true
same n = grind (arith, nat_tests)

-- where they rise from that number on, it is all
pub all_rise : (n : ℕ) (os : List Object) → RiseFrom n (numbers_in os) → all_from n os ≡ os
all_rise n [] rise = refl
all_rise n (o ∷ os) rise = ap (λ (b : Bool). cond b (o ∷ os) (all_from n os)) (is_low n o.id rise.0)

-- where there is no first one, there is none
pub none_from : (n : ℕ) (os : List Object) → first_from n os ≡ None → all_from n os ≡ []
none_from n [] none = refl
none_from n (o ∷ os) none = by (nat_le n o.id) (none_from n os) none
  where
    by : (b : Bool) → (first_from n os ≡ None → all_from n os ≡ []) → cond b (Some o) (first_from n os) ≡ None → cond b (o ∷ os) (all_from n os) ≡ []
    by true rest none = absurd (cc (none))
    by false rest none = rest none

-- the first one lies from the number on
pub first_low : (n : ℕ) (os : List Object) (o : Object) → first_from n os ≡ Some o → n ≤ o.id
first_low n [] o is = absurd (cc (is))
first_low n (p ∷ ps) o is = by (nat_le n p.id) refl (first_low n ps o) is
  where
    by : (b : Bool) → nat_le n p.id ≡ b → (first_from n ps ≡ Some o → n ≤ o.id) → cond b (Some p) (first_from n ps) ≡ Some o → n ≤ o.id
    by true low rest found = let one : p ≡ o = cc (found) in subst (λ (q : Object). n ≤ q.id) one (low_is n p.id low)
    by false low rest found = rest found

-- and those behind it are all from the next number on
pub first_then : (n low : ℕ) (os : List Object) (o : Object) → RiseFrom low (numbers_in os) → first_from n os ≡ Some o → all_from n os ≡ o ∷ all_from (o.id + 1) os
first_then n low [] o rise is = absurd (cc (is))
first_then n low (p ∷ ps) o rise is = by (nat_le n p.id) refl (first_then n (p.id + 1) ps o rise.1) is
  where
    behind : all_from (p.id + 1) (p ∷ ps) ≡ ps
    behind = ap (λ (b : Bool). cond b (p ∷ ps) (all_from (p.id + 1) ps)) (is_high (p.id + 1) p.id (omega arith)) ∙ all_rise (p.id + 1) ps rise.1

    by_same : p ≡ o → p ∷ ps ≡ o ∷ all_from (o.id + 1) (p ∷ ps)
    by_same one = ap (λ (qs : List Object). p ∷ qs) (sym behind) ∙ ap (λ (q : Object). q ∷ all_from (q.id + 1) (p ∷ ps)) one

    later : n ≤ o.id → p.id < n → all_from (o.id + 1) (p ∷ ps) ≡ all_from (o.id + 1) ps
    later low high = ap (λ (b : Bool). cond b (p ∷ ps) (all_from (o.id + 1) ps)) (is_high (o.id + 1) p.id (omega (arith, low, high)))

    by : (b : Bool) → nat_le n p.id ≡ b → (first_from n ps ≡ Some o → all_from n ps ≡ o ∷ all_from (o.id + 1) ps) → cond b (Some p) (first_from n ps) ≡ Some o
        → cond b (p ∷ ps) (all_from n ps) ≡ o ∷ all_from (o.id + 1) (p ∷ ps)
    by true test rest found = by_same (cc (found))
    by false test rest found =
        rest found ∙ ap (λ (qs : List Object). o ∷ qs) (sym (later (first_low n ps o found) (high_is n p.id test)))

-- an object is the one of its number
pub first_is : (n low : ℕ) (os : List Object) (o : Object) → RiseFrom low (numbers_in os) → first_from n os ≡ Some o → object_numbered o.id os ≡ Some o
first_is n low [] o rise is = absurd (cc (is))
first_is n low (p ∷ ps) o rise is = by (nat_le n p.id) refl (first_is n (p.id + 1) ps o rise.1) is
  where
    by_same : p ≡ o → object_numbered o.id (p ∷ ps) ≡ Some o
    by_same one = ap (λ (b : Bool). cond b (Some p) (object_numbered o.id ps)) (ap (λ (q : Object). p.id == q.id) (sym one) ∙ same p.id) ∙ ap Some one

    by : (b : Bool) → nat_le n p.id ≡ b → (first_from n ps ≡ Some o → object_numbered o.id ps ≡ Some o) → cond b (Some p) (first_from n ps) ≡ Some o → object_numbered o.id (p ∷ ps) ≡ Some o
    by true test rest found = by_same (cc (found))
    by false test rest found =
        let less : p.id < o.id = omega (arith, high_is n p.id test, first_low n ps o found) in
        ap (λ (b : Bool). cond b (Some p) (object_numbered o.id ps)) (other p.id o.id less) ∙ rest found
