-- At which seconds a number divides the second.
use Rattle.std.proofs.Common.{◌≡◌, ◌≤◌, ◌<◌, ℕ, zero, suc, ◌+◌, ◌-◌, ◌*◌, ◌/◌, ◌%◌, ◌^◌, ℤ, pos, Bool, true, false, cond, refl, ap, sym, ◌∙◌, arith}
use Rattle.std.specs.Prelude.{◌+ℤ◌, ◌≤ℤ◌, ◌==◌, ◌&&◌, int_lt, int_le}
use Rattle.std.specs.Int.{int_gap}
use Rattle.std.specs.Ordering.{int_eq}
use Rattle.std.proofs.lemmas.Int.{ints, int_rem_euclid_is}
use Rattle.std.proofs.lemmas.Nat.{div-add-mod', div-mul-add, mod-mul-add, mod_below}
use Rattle.std.proofs.lemmas.Bool.Decides.{nat_tests}
use Rattle.ode_value.specs.declared.event.Kind.{Kind}
use Rattle.ode_value.specs.declared.event.Kind.TheVariants.{Create, Delete, NewVersion, DropVersion, Before, After, TBegin, TComplete, TCommit, TAbort, TimeEvery, TimeAt}
use Rattle.ode_timer.specs.Counts.{IsIdleKind, times_behind}
use Rattle.ode_timer.specs.Due.{is_due}

-- a number and its next, divided
by_rest : (x n q r : ℕ) → 0 < n → x ≡ q * n + r → r < n → (b : Bool) → (r + 1 == n) ≡ b → ((x + 1) / n ≡ q + cond b 1 0) × ((x + 1) % n ≡ cond b 0 (r + 1))
by_rest x n q r some is below true last =
    let e : r + 1 ≡ n = grind (arith, nat_tests) in
    let whole : x + 1 ≡ (q + 1) * n + 0 = omega arith in
    (ap (λ y. y / n) whole ∙ div-mul-add (q + 1) n 0 some, ap (λ y. y % n) whole ∙ mod-mul-add (q + 1) n 0 some)
by_rest x n q r some is below false last =
    let e : r + 1 < n = grind (arith, nat_tests) in
    let whole : x + 1 ≡ q * n + (r + 1) = omega arith in
    (ap (λ y. y / n) whole ∙ div-mul-add q n (r + 1) e ∙ omega arith, ap (λ y. y % n) whole ∙ mod-mul-add q n (r + 1) e)

-- 1 where the test holds
one : Bool → ℕ
one b = cond b 1 0

by_next : (r : ℕ) (b : Bool) → one (cond b 0 (r + 1) == 0) ≡ one b
unfolding one
by_next r true = refl
by_next r false = grind (arith, nat_tests)

same_zero : (x : ℕ) → int_eq (pos x) (pos 0) ≡ (x == 0)
same_zero x = grind (arith, ints, nat_tests)

next_quotient : (x n : ℕ) → 0 < n → (x + 1) / n ≡ x / n + cond ((x + 1) % n == 0) 1 0
unfolding one
next_quotient x n some =
    let rest = by_rest x n (x / n) (x % n) some (sym (div-add-mod' x n)) (mod_below x n some) (x % n + 1 == n) refl in
    rest.0 ∙ ap (λ y. x / n + y) (sym (ap (λ y. one (y == 0)) rest.1 ∙ by_next (x % n) (x % n + 1 == n)))

module _ (n : ℕ) (some : 0 < n) (from : ℤ) (m : ℕ) (mark : pos m ≡ from +ℤ pos (n * 2 ^ 63)) where
  -- the number is due where it divides the second's mark
  pub due_mark : (j : ℕ) → is_due (from +ℤ pos j) (TimeEvery n) ≡ ((m + j) % n == 0)
  due_mark j = ap (λ z. int_eq z (pos 0)) (int_rem_euclid_is (from +ℤ pos j) (pos n) n (2 ^ 63) (m + j) some refl (omega (arith, ints))) ∙ same_zero ((m + j) % n)

  pub times_every : (k : ℕ) → times_behind from k (TimeEvery n) + m / n ≡ (m + k) / n
  unfolding one
  times_every zero = let same : m + 0 ≡ m = omega arith in omega (arith, ap (λ y. y / n) same)
  times_every (suc k) =
      let so_far = times_every k in
      let next = next_quotient (m + k) n some in
      let due = ap one (due_mark (suc k)) in
      let same : (m + k) + 1 ≡ m + suc k = omega arith in
      omega (arith, so_far, next, due, ap (λ y. y / n) same, ap (λ y. one (y % n == 0)) same)

  -- the first one behind is as far as the rest is from the number
  pub idle_every : IsIdleKind from (n - m % n) (TimeEvery n)
  idle_every j above below =
      let rest = mod_below m n some in
      let whole : m + j ≡ (m / n) * n + (m % n + j) = omega (arith, div-add-mod' m n) in
      let r : (m + j) % n ≡ m % n + j = ap (λ y. y % n) whole ∙ mod-mul-add (m / n) n (m % n + j) (omega arith) in
      due_mark j ∙ ap (λ y. y == 0) r ∙ grind (arith, nat_tests)

-- counted by two marks
pub by_marks : (n : ℕ) → 0 < n → (after last : ℤ) (from to every : ℕ) → after ≤ℤ last → every ≡ n → pos from ≡ after +ℤ pos (n * 2 ^ 63) → pos to ≡ last +ℤ pos (n * 2 ^ 63)
    → to / every - from / every ≡ times_behind after (int_gap after last) (TimeEvery n)
by_marks n some after last from to every order is from_is to_is =
    let gap : to ≡ from + int_gap after last = grind (arith, ints) in
    let times = times_every n some after from from_is (int_gap after last) in
    let whole : to / every ≡ (from + int_gap after last) / n = ap (λ y. to / y) is ∙ ap (λ y. y / n) gap in
    let part : from / every ≡ from / n = ap (λ y. from / y) is in
    omega (arith, times, whole, part)

-- a second comes once
pub times_at : (s from : ℤ) (k : ℕ) → times_behind from k (TimeAt s) ≡ cond (int_lt from s && int_le s (from +ℤ pos k)) 1 0
times_at s from zero = grind (arith, ints)
times_at s from (suc k) = let so_far = times_at s from k in grind (arith, ints)

pub once_is : (s after last : ℤ) → after ≤ℤ last → (b : Bool) → (int_lt after s && int_le s last) ≡ b → cond b 1 0 ≡ times_behind after (int_gap after last) (TimeAt s)
unfolding one
once_is s after last order b is =
    let there : after +ℤ pos (int_gap after last) ≡ last = grind (arith, ints) in
    let times = times_at s after (int_gap after last) in
    let same = ap (λ t. one (int_lt after s && int_le s t)) there ∙ ap one is in
    sym (times ∙ same)

-- a kind that is never due
pub times_never : (kind : Kind) (from : ℤ) → ((t : ℤ) → is_due t kind ≡ false) → (k : ℕ) → times_behind from k kind ≡ 0
unfolding one
times_never kind from never zero = refl
times_never kind from never (suc k) = let so_far = times_never kind from never k in omega (arith, so_far, ap one (never (from +ℤ pos (suc k))))

-- the kinds that are no time's are never due
pub never_other : (kind : Kind) → ((n : ℕ) → kind ≡ TimeEvery n → ⊥) → ((s : ℤ) → kind ≡ TimeAt s → ⊥) → (t : ℤ) → is_due t kind ≡ false
never_other Create no_every no_at t = refl
never_other Delete no_every no_at t = refl
never_other NewVersion no_every no_at t = refl
never_other DropVersion no_every no_at t = refl
never_other (Before name) no_every no_at t = refl
never_other (After name) no_every no_at t = refl
never_other TBegin no_every no_at t = refl
never_other TComplete no_every no_at t = refl
never_other TCommit no_every no_at t = refl
never_other TAbort no_every no_at t = refl
never_other (TimeEvery n) no_every no_at t = absurd (no_every n refl)
never_other (TimeAt s) no_every no_at t = absurd (no_at s refl)

-- nothing is due at fewer seconds than the rest is from the number
pub idle_within : (n : ℕ) → 0 < n → (after : ℤ) (m every k : ℕ) → every ≡ n → pos m ≡ after +ℤ pos (n * 2 ^ 63) → k ≤ every - m % every → IsIdleKind after k (TimeEvery n)
idle_within n some after m every k is mark short j above below =
    let same : every - m % every ≡ n - m % n = ap (λ e. e - m % e) is in
    idle_every n some after m mark j above (omega arith)

-- how far a second is that lies so far behind another
pub gap_plus : (after : ℤ) (k : ℕ) → int_gap after (after +ℤ pos k) ≡ k
gap_plus after k = grind (arith, ints)

pub within_gap : (after last : ℤ) (k : ℕ) → after ≤ℤ last → k ≤ int_gap after last → (after +ℤ pos k) ≤ℤ last
within_gap after last k order short = grind (arith, ints)
