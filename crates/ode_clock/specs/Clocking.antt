-- What a clock command goes through, and how it answers.
use Rattle.std.specs.Prelude.{◌≡◌, ℕ, ℤ, ◌+◌, List, [], Option, Some, None, Result, Ok, Err, cond, is_some}
use Rattle.ode_machine.specs.Refusals.{due_from}
use Rattle.ode_machine.specs.Works.{clock_run, tick}
use Rattle.ode_timer.specs.Due.{behind}
use Rattle.ode_value.specs.Answers.{Answer, ◌>>=◌}
use Rattle.ode_value.specs.Denoting.{object_at}
use Rattle.ode_value.specs.Draining.{with_drain}
use Rattle.ode_value.specs.Language.{ListWorld, Settlings}
use Rattle.ode_value.specs.Limits.{drain_limit}
use Rattle.ode_value.specs.Pasts.{lists}
use Rattle.ode_value.specs.Worlds.{Bones, Position}
use Rattle.ode_value.specs.declared.reason.Refusal.{Refusal}

-- an instant, with what is due from a position up to it
abbrev pub due_by : Bones → Option Position → ℤ → Answer (ℤ × List Position)
due_by b old t = do
  ps ← due_from b old t
  Ok (t, ps)

-- what a tick settles with its drain, where its object is there when its turn comes
abbrev pub tick_settled : Position → ℕ → ListWorld → Settlings
tick_settled p most w = cond (is_some (object_at w.bones p.object)) (with_drain lists most (tick lists p w)) []

-- how many that are, where so many entries ran behind it, or where its object isn't there
abbrev pub settled_with : Option ℕ → ℕ
settled_with None = 0
settled_with (Some ran) = ran + 1

-- what a clock command settles: its ticks, and the move behind everything of its instant
abbrev pub clock_settled : ListWorld → ℤ × List Position → Settlings
clock_settled w (t, ps) = clock_run lists ps (behind t) drain_limit w

-- the refusal, and nothing is changed; or so many transactions were settled
abbrev pub Clocks : Answer (ℤ × List Position) → Result ℕ Refusal → Type 0 → (ℤ × List Position → ℕ → Type 0) → Type 0
Clocks (Err refusal) (Err why) unchanged settled = (why ≡ refusal) × unchanged
Clocks (Ok ticks) (Ok count) unchanged settled = settled ticks count
Clocks _ _ unchanged settled = ⊥
