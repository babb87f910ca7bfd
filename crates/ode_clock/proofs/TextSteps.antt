-- The instant of a text, and what is due up to it, as they are answered.
use Rattle.std.proofs.Common.{◌≡◌, ◌∙◌, ℕ, ℤ, List, Option, Some, ap}
use Rattle.std.specs.Option.{ok_or}
use Rattle.ode_clock.specs.Clocking.{due_by}
use Rattle.ode_language.specs.Languages.{ode}
use Rattle.ode_machine.specs.Refusals.{ticks_in}
use Rattle.ode_timer.specs.Dates.{instant_of}
use Rattle.ode_value.specs.Answers.{◌>>=◌}
use Rattle.ode_value.specs.declared.reason.Refusal.TheVariants as refusal
use Rattle.ode_value.specs.Worlds.{Bones, Position}

-- where the text has an instant, and the clock stands there or isn't set
pub ticks_are : (b : Bones) (text : List ℕ) (t : ℤ) (clock : Option Position) → Some t ≡ instant_of text → clock ≡ b.clock → due_by b clock t ≡ ticks_in ode b text
ticks_are b text t clock read stands =
    ap (λ (p : Option Position). due_by b p t) stands ∙ ap (λ (found : Option ℤ). ok_or found refusal.BadInstant >>= (λ (s : ℤ). due_by b b.clock s)) read
