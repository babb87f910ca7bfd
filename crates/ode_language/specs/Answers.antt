-- What an answer says of what was meant.
use Rattle.std.specs.Prelude.{◌≡◌, Result, Ok, Err}
use Rattle.ode_value.specs.Answers.{Answer}
use Rattle.ode_language.specs.declared.reading.ReadStop.{ReadStop}
use Rattle.ode_language.specs.declared.reading.ReadStop.TheVariants as stop

-- an answer or a refusal is what was meant; want of memory says nothing
abbrev pub Answers : {R : Type 0} → Answer R → Result R ReadStop → Type 0
Answers meant (Ok r) = meant ≡ Ok r
Answers meant (Err (stop.Refused why)) = meant ≡ Err why
Answers meant (Err stop.Memory) = Unit {0}
