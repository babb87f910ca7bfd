-- What is due up to an instant, as it is answered.
use Rattle.std.proofs.Common.{◌≡◌, ◌≤◌, ◌<◌, ◌∙◌, ◌-◌, ◌^◌, ℕ, ℤ, min, Bool, true, false, List, length, Some, Ok, Err, sym, ap, subst, arith}
use Rattle.std.specs.List.{All}
use Rattle.std.specs.Prelude.{int_lt, nat_lt}
use Rattle.std.proofs.lemmas.Bool.Decides.{nat_tests}
use Rattle.ode_clock.specs.Clocking.{due_by}
use Rattle.ode_machine.specs.TimeRows.{time_rows}
use Rattle.ode_timer.specs.declared.clock.TimeRow.{TimeRow}
use Rattle.ode_timer.specs.Due.{HasPlaces, due}
use Rattle.ode_value.specs.Answers.{Answer, ◌>>=◌, refuses}
use Rattle.ode_value.specs.declared.reason.Refusal.TheVariants as refusal
use Rattle.ode_value.specs.Limits.{due_limit}
use Rattle.ode_value.specs.Worlds.{Bones, Position}

-- an answer by its two tests: whether the clock goes back, and whether too many are due
abbrev answer_by : Bool → Bool → List Position → ℤ → Answer (ℤ × List Position)
answer_by back many ps t = (refuses back refusal.ClockBack >>= (λ _. refuses many (refusal.TooManyDue (length ps)) >>= (λ _. Ok ps))) >>= (λ qs. Ok (t, qs))

answer_is : (b : Bones) (old : Position) (t : ℤ) (many : Bool) → int_lt t old.instant ≡ false → nat_lt due_limit (length (due (time_rows b) old t)) ≡ many
    → due_by b (Some old) t ≡ answer_by false many (due (time_rows b) old t) t
answer_is b old t many on few =
    let ps : List Position = due (time_rows b) old t in
    ap (λ (x : Bool). answer_by x (nat_lt due_limit (length ps)) ps t) on ∙ ap (λ (x : Bool). answer_by false x ps t) few

few_are : (n : ℕ) → n ≤ due_limit → nat_lt due_limit n ≡ false
few_are n few = grind (arith, nat_tests)

many_are : (n : ℕ) → due_limit < n → nat_lt due_limit n ≡ true
many_are n many = grind (arith, nat_tests)

-- few events
pub due_found : (b : Bones) (rows : List TimeRow) (old : Position) (t : ℤ) (events : List Position) → rows ≡ time_rows b → int_lt t old.instant ≡ false → length (due rows old t) ≤ due_limit → All HasPlaces (time_rows b)
    → (All HasPlaces rows → events ≡ due rows old t) → Ok (t, events) ≡ due_by b (Some old) t
due_found b rows old t events same on few places are =
    let its : events ≡ due (time_rows b) old t = are (subst (λ (rs : List TimeRow). All HasPlaces rs) (sym same) places) ∙ ap (λ (rs : List TimeRow). due rs old t) same in
    let fewer = subst (λ (rs : List TimeRow). length (due rs old t) ≤ due_limit) same few in
    ap (λ (ps : List Position). Ok (t, ps)) its ∙ sym (answer_is b old t false on (few_are (length (due (time_rows b) old t)) fewer))

-- their number, where it is counted
counted : (n count : ℕ) → count ≡ min n (2 ^ 128 - 1) → n < 2 ^ 128 → count ≡ n
counted n count is less = omega (arith, is, less)

pub due_past : (b : Bones) (rows : List TimeRow) (old : Position) (t : ℤ) (count : ℕ) → rows ≡ time_rows b → int_lt t old.instant ≡ false → due_limit < length (due rows old t) → count ≡ min (length (due rows old t)) (2 ^ 128 - 1)
    → length (due (time_rows b) old t) < 2 ^ 128 → Err (refusal.TooManyDue count) ≡ due_by b (Some old) t
due_past b rows old t count same on many is less =
    let ps : List Position = due (time_rows b) old t in
    let more = subst (λ (rs : List TimeRow). due_limit < length (due rs old t)) same many in
    let min_is = is ∙ ap (λ (rs : List TimeRow). min (length (due rs old t)) (2 ^ 128 - 1)) same in
    ap (λ (n : ℕ). Err (refusal.TooManyDue n)) (counted (length ps) count min_is less) ∙ sym (answer_is b old t true on (many_are (length ps) more))
