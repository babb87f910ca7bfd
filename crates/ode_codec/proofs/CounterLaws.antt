-- Counters lie within their limits just if the test says so.
use Rattle.std.proofs.Common.{◌≡◌, ℕ, ℤ, ◌≤◌, Bool, true, false, refl, ap, ◌∙◌, arith}
use Rattle.std.specs.Prelude.{pos, nat_le, ◌==◌, ◌&&◌, ◌||◌}
use Rattle.std.specs.Ordering.{int_eq}
use Rattle.std.proofs.lemmas.Bool.Decides.{Decides-int_eq, nat_tests}
use Rattle.ode_value.specs.Limits.{number_limit, transaction_limit}
use Rattle.ode_codec.specs.Reading.{is_clock, is_counters, is_next}
use Rattle.ode_codec.specs.Rules.{IsClock, IsKeptCounters, IsNext}
use Rattle.ode_codec.specs.declared.record.Counters.{Counters}
use Rattle.ode_codec.proofs.ValueLaws.{both_true}

pub is_zero : (n : ℕ) → (n == 0) ≡ true → n ≡ 0
is_zero n h = grind (arith, nat_tests)

zero_is : (n : ℕ) → n ≡ 0 → (n == 0) ≡ true
zero_is n h = grind (arith, nat_tests)

next_is : (limit n : ℕ) → is_next limit n ≡ true → IsNext limit n
next_is limit n h =
    let parts = both_true (nat_le 1 n) (nat_le n limit) h in
    let some : nat_le 1 n ≡ true = parts.0 in
    let few : nat_le n limit ≡ true = parts.1 in
    (grind (arith, nat_tests), grind (arith, nat_tests))

next_passes : (limit n : ℕ) → IsNext limit n → is_next limit n ≡ true
next_passes limit n is = let some : 1 ≤ n = is.0 in let few : n ≤ limit = is.1 in grind (arith, nat_tests)

int_zero : (n : ℤ) → int_eq n (pos 0) ≡ true → n ≡ pos 0
int_zero n h = (Decides-int_eq n (pos 0)).0 h

clock_is : (b : Bool) (n : ℤ) (object place : ℕ) → (b || (int_eq n (pos 0) && (object == 0 && place == 0))) ≡ true → IsClock b n object place
clock_is true n object place h = tt
clock_is false n object place h =
    let a = both_true (int_eq n (pos 0)) (object == 0 && place == 0) h in
    let b = both_true (object == 0) (place == 0) a.1 in
    (int_zero n a.0, is_zero object b.0, is_zero place b.1)

clock_passes : (b : Bool) (n : ℤ) (object place : ℕ) → IsClock b n object place → (b || (int_eq n (pos 0) && (object == 0 && place == 0))) ≡ true
clock_passes true n object place is = refl
clock_passes false n object place is =
    ap (λ b. b && (object == 0 && place == 0)) ((Decides-int_eq n (pos 0)).1 is.0) ∙ ap (λ b. b && place == 0) (zero_is object is.1) ∙ zero_is place is.2

pub counters_are : (c : Counters) → is_counters c ≡ true → IsKeptCounters c
unfolding is_counters
counters_are c h =
    let a = both_true (is_next number_limit c.next_number) (is_next transaction_limit c.next_transaction && (is_next number_limit c.next_entry && is_clock c)) h in
    let b = both_true (is_next transaction_limit c.next_transaction) (is_next number_limit c.next_entry && is_clock c) a.1 in
    let d = both_true (is_next number_limit c.next_entry) (is_clock c) b.1 in
    record {
      next_number = next_is number_limit c.next_number a.0;
      next_transaction = next_is transaction_limit c.next_transaction b.0;
      next_entry = next_is number_limit c.next_entry d.0;
      clock = clock_is c.clock_set c.instant c.object c.place d.1;
    }

pub counters_pass : (c : Counters) → IsKeptCounters c → is_counters c ≡ true
unfolding is_counters
counters_pass c is =
    ap (λ b. b && (is_next transaction_limit c.next_transaction && (is_next number_limit c.next_entry && is_clock c))) (next_passes number_limit c.next_number is.next_number)
    ∙ ap (λ b. b && (is_next number_limit c.next_entry && is_clock c)) (next_passes transaction_limit c.next_transaction is.next_transaction)
    ∙ ap (λ b. b && is_clock c) (next_passes number_limit c.next_entry is.next_entry)
    ∙ clock_passes c.clock_set c.instant c.object c.place is.clock
