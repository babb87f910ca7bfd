-- Answers that may be a refusal, and how they follow one another.
use Rattle.std.specs.Prelude.{Bool, cond, Result, Ok, Err}
use Rattle.ode_value.specs.declared.reason.CheckError.{CheckError}
use Rattle.ode_value.specs.declared.reason.Refusal.{Refusal}
use Rattle.ode_value.specs.declared.reason.Refusal.TheVariants as refusal

-- what is answered, or a refusal
abbrev pub Answer : Type 0 → Type 0
Answer R = Result R Refusal

-- goes on with an answer; the first refusal ends it
infixl 10 ◌>>=◌
abbrev pub ◌>>=◌ : {R S : Type 0} → Answer R → (R → Answer S) → Answer S
Ok r >>= next = next r
Err refusal >>= next = Err refusal

-- the same without an answer
infixl 10 ◌>>◌
abbrev pub ◌>>◌ : {S : Type 0} → Answer (Unit {0}) → Answer S → Answer S
answer >> next = answer >>= (λ _. next)

-- refuses where a test is true
abbrev pub refuses : Bool → Refusal → Answer (Unit {0})
refuses b refusal = cond b (Err refusal) (Ok tt)

-- the first broken rule refuses
abbrev pub checks : {R : Type 0} → Result R CheckError → Answer R
checks (Ok r) = Ok r
checks (Err e) = Err (refusal.Check e)
