-- The open sessions, without one of them and with one more at its place.
use Rattle.std.proofs.Common.{◌≡◌, ◌+◌, ◌<◌, ◌≤◌, ℕ, suc, Bool, true, false, cond, List, [], ◌∷◌, map, length, ◌==◌, Some, None, refl, ap, ◌∙◌, subst, arith}
use Rattle.std.proofs.lemmas.Bool.{eqb-true, ltb-true}
use Rattle.std.proofs.lemmas.Bool.Decides.{nat_tests}
use Rattle.std.specs.List.{AllByRecursion}
use Rattle.std.specs.Prelude.{nat_lt, not}
use Rattle.ode_interleaved_laws.specs.Meeting.{AreAllApart, AreApart}
use Rattle.ode_laws.proofs.Each.{all-filter, all-find}
use Rattle.ode_laws.proofs.Numbers.{rise_filter}
use Rattle.ode_machine.specs.Interleaving.{Open, is_session, others_of, session_of, with_open}
use Rattle.ode_value.specs.Footprints.{Footprint}
use Rattle.ode_value.specs.GoodWorlds.{RiseFrom}

abbrev pub number_of : Open → ℕ
number_of o = o.session

-- it isn't the session of this number
abbrev pub IsOther : ℕ → Open → Type 0
IsOther n o = (o.session == n) ≡ false

pub apart_back : (f g : Footprint) → AreApart f g → AreApart g f
apart_back f g a = record { objects = λ id one two. a.objects id two one; numbers = λ one two. a.numbers two one; queue = λ one two. a.queue two one }

-- ---- the others

pub others_rise : (n low : ℕ) (os : List Open) → RiseFrom low (map number_of os) → RiseFrom low (map number_of (others_of n os))
others_rise n low os rise = rise_filter number_of (λ o. not (is_session n o)) low os rise

pub others_other : (n : ℕ) (os : List Open) → AllByRecursion (IsOther n) (others_of n os)
others_other n [] = tt
others_other n (o ∷ os) = by_test (o.session == n) refl (others_other n os) where
  by_test : (b : Bool) → (o.session == n) ≡ b → AllByRecursion (IsOther n) (others_of n os) → AllByRecursion (IsOther n) (cond (not b) (o ∷ others_of n os) (others_of n os))
  by_test true e rest = rest
  by_test false e rest = (e, rest)

pub others_apart : (n : ℕ) (os : List Open) → AreAllApart os → AreAllApart (others_of n os)
others_apart n [] all = tt
others_apart n (o ∷ os) all = by_test (o.session == n) (others_apart n os all.1) where
  by_test : (b : Bool) → AreAllApart (others_of n os) → AreAllApart (cond (not b) (o ∷ others_of n os) (others_of n os))
  by_test true rest = rest
  by_test false rest = (all-filter (λ (p : Open). AreApart o.held p.held) (λ p. not (is_session n p)) os all.0, rest)

-- what one of them holds the others don't
pub others_apart_from : (n : ℕ) (os : List Open) → AreAllApart os → (o : Open) → session_of n os ≡ Some o → AllByRecursion (λ (p : Open). AreApart o.held p.held) (others_of n os)
others_apart_from n [] all o is = tt
others_apart_from n (p ∷ os) all o is = by_test (p.session == n) is (others_apart_from n os all.1 o) where
  by_test : (b : Bool) → cond b (Some p) (session_of n os) ≡ Some o → (session_of n os ≡ Some o → AllByRecursion (λ (q : Open). AreApart o.held q.held) (others_of n os))
      → AllByRecursion (λ (q : Open). AreApart o.held q.held) (cond (not b) (p ∷ others_of n os) (others_of n os))
  by_test true found rest =
      let same : p ≡ o = cc in
      subst (λ (s : Open). AllByRecursion (λ (q : Open). AreApart s.held q.held) (others_of n os)) same (all-filter (λ (q : Open). AreApart p.held q.held) (λ q. not (is_session n q)) os all.0)
  by_test false found rest = (apart_back p.held o.held (all-find (λ (q : Open). AreApart p.held q.held) (is_session n) os all.0 o found), rest found)

pub others_none : (n : ℕ) (os : List Open) → session_of n os ≡ None → others_of n os ≡ os
others_none n [] is = refl
others_none n (o ∷ os) is = by_test (o.session == n) is (others_none n os) where
  by_test : (b : Bool) → cond b (Some o) (session_of n os) ≡ None → (session_of n os ≡ None → others_of n os ≡ os) → cond (not b) (o ∷ others_of n os) (others_of n os) ≡ o ∷ os
  by_test true none rest = absurd (cc)
  by_test false none rest = ap (λ more. o ∷ more) (rest none)

pub others_above : (n low : ℕ) (os : List Open) → n < low → RiseFrom low (map number_of os) → others_of n os ≡ os
others_above n low [] less rise = refl
others_above n low (o ∷ os) less rise =
    let least : low ≤ o.session = rise.0 in
    let other : (o.session == n) ≡ false = later n o.session (omega arith) in
    ap (λ b. cond (not b) (o ∷ others_of n os) (others_of n os)) other ∙ ap (λ more. o ∷ more) (others_above n (o.session + 1) os (omega arith) rise.1)
  where
    later : (a b : ℕ) → a < b → (b == a) ≡ false
    later a b less = grind (arith, nat_tests)

-- without one there is one less
pub others_fewer : (n low : ℕ) (os : List Open) → RiseFrom low (map number_of os) → (o : Open) → session_of n os ≡ Some o → suc (length (others_of n os)) ≡ length os
others_fewer n low [] rise o is = absurd (cc)
others_fewer n low (p ∷ os) rise o is = by_test (p.session == n) refl is (others_fewer n (p.session + 1) os rise.1 o) where
  by_test : (b : Bool) → (p.session == n) ≡ b → cond b (Some p) (session_of n os) ≡ Some o → (session_of n os ≡ Some o → suc (length (others_of n os)) ≡ length os)
      → suc (length (cond (not b) (p ∷ others_of n os) (others_of n os))) ≡ length (p ∷ os)
  by_test true e found rest =
      let same : p.session ≡ n = eqb-true p.session n e in
      ap (λ more. suc (length more)) (others_above n (p.session + 1) os (omega arith) rise.1)
  by_test false e found rest = ap suc (rest found)

-- ---- one more

-- in front of all others, and at its own place
with_front : (o : Open) (os : List Open) → RiseFrom (o.session + 1) (map number_of os) → with_open o os ≡ o ∷ os
with_front o [] rise = refl
with_front o (p ∷ os) rise =
    let up : o.session + 1 ≤ p.session = rise.0 in
    ap (λ b. cond b (o ∷ p ∷ os) (p ∷ with_open o os)) (is_less o.session p.session (omega arith))
  where
    is_less : (a b : ℕ) → a < b → nat_lt a b ≡ true
    is_less a b less = grind (arith, nat_tests)

is_among : (n low : ℕ) (os : List Open) → RiseFrom low (map number_of os) → (o : Open) → session_of n os ≡ Some o → low ≤ o.session
is_among n low [] rise o is = absurd (cc)
is_among n low (p ∷ os) rise o is = by_test (p.session == n) is (is_among n (p.session + 1) os rise.1 o) where
  by_test : (b : Bool) → cond b (Some p) (session_of n os) ≡ Some o → (session_of n os ≡ Some o → p.session + 1 ≤ o.session) → low ≤ o.session
  by_test true found rest = let same : p ≡ o = cc in subst (λ (q : Open). low ≤ q.session) same rise.0
  by_test false found rest = let above = rest found in let below : low ≤ p.session = rise.0 in omega (arith, above, below)

pub with_same : (n low : ℕ) (os : List Open) → RiseFrom low (map number_of os) → (o : Open) → session_of n os ≡ Some o → with_open o (others_of n os) ≡ os
with_same n low [] rise o is = absurd (cc)
with_same n low (p ∷ os) rise o is = by_test (p.session == n) refl is (with_same n (p.session + 1) os rise.1 o) where
  not_less : (a b : ℕ) → b + 1 ≤ a → nat_lt a b ≡ false
  not_less a b less = grind (arith, nat_tests)

  by_test : (b : Bool) → (p.session == n) ≡ b → cond b (Some p) (session_of n os) ≡ Some o → (session_of n os ≡ Some o → with_open o (others_of n os) ≡ os)
      → with_open o (cond (not b) (p ∷ others_of n os) (others_of n os)) ≡ p ∷ os
  by_test true e found rest =
      let same : p ≡ o = cc in
      let number : p.session ≡ n = eqb-true p.session n e in
      ap (with_open o) (others_above n (p.session + 1) os (omega arith) rise.1) ∙ subst (λ (q : Open). with_open q os ≡ p ∷ os) same (with_front p os rise.1)
  by_test false e found rest =
      ap (λ b. cond b (o ∷ p ∷ others_of n os) (p ∷ with_open o (others_of n os))) (not_less o.session p.session (is_among n (p.session + 1) os rise.1 o found)) ∙ ap (λ more. p ∷ more) (rest found)

pub with_all : (P : Open → Type 0) (o : Open) (os : List Open) → P o → AllByRecursion P os → AllByRecursion P (with_open o os)
with_all P o [] one all = (one, tt)
with_all P o (p ∷ os) one all = by_test (nat_lt o.session p.session) (with_all P o os one all.1) where
  by_test : (b : Bool) → AllByRecursion P (with_open o os) → AllByRecursion P (cond b (o ∷ p ∷ os) (p ∷ with_open o os))
  by_test true rest = (one, all)
  by_test false rest = (all.0, rest)

pub with_apart : (o : Open) (os : List Open) → AllByRecursion (λ (p : Open). AreApart o.held p.held) os → AreAllApart os → AreAllApart (with_open o os)
with_apart o [] one all = (tt, tt)
with_apart o (p ∷ os) one all = by_test (nat_lt o.session p.session) (with_apart o os one.1 all.1) where
  by_test : (b : Bool) → AreAllApart (with_open o os) → AreAllApart (cond b (o ∷ p ∷ os) (p ∷ with_open o os))
  by_test true rest = (one, all)
  by_test false rest = (with_all (λ (q : Open). AreApart p.held q.held) o os (apart_back o.held p.held one.0) all.0, rest)

pub with_rise : (o : Open) (low : ℕ) (os : List Open) → low ≤ o.session → AllByRecursion (IsOther o.session) os → RiseFrom low (map number_of os) → RiseFrom low (map number_of (with_open o os))
with_rise o low [] least others rise = (least, tt)
with_rise o low (p ∷ os) least others rise = by_test (nat_lt o.session p.session) refl (λ up. with_rise o (p.session + 1) os up others.1 rise.1) where
  below : (a b : ℕ) → nat_lt a b ≡ true → a + 1 ≤ b
  below a b is = let less : a < b = ltb-true a b is in omega (arith, less)

  above : (a b : ℕ) → nat_lt a b ≡ false → (b == a) ≡ false → b + 1 ≤ a
  above a b is other = grind (arith, nat_tests)

  by_test : (b : Bool) → nat_lt o.session p.session ≡ b → (p.session + 1 ≤ o.session → RiseFrom (p.session + 1) (map number_of (with_open o os))) → RiseFrom low (map number_of (cond b (o ∷ p ∷ os) (p ∷ with_open o os)))
  by_test true e rest = (least, (below o.session p.session e, rise.1))
  by_test false e rest = (rise.0, rest (above o.session p.session e others.0))

pub with_one_more : (o : Open) (os : List Open) → length (with_open o os) ≡ suc (length os)
with_one_more o [] = refl
with_one_more o (p ∷ os) = by_test (nat_lt o.session p.session) (with_one_more o os) where
  by_test : (b : Bool) → length (with_open o os) ≡ suc (length os) → length (cond b (o ∷ p ∷ os) (p ∷ with_open o os)) ≡ suc (length (p ∷ os))
  by_test true rest = refl
  by_test false rest = ap suc rest
