-- What the answers to a batch leave.
use Rattle.std.specs.Prelude.{ℕ, [], ◌∷◌, Result, Err}
use Rattle.ode_heap.specs.declared.error.HeapError.{HeapError}
use Rattle.ode_heap.specs.declared.error.HeapError.TheVariants.{Memory, TooLarge}
use Rattle.ode_keep.specs.Entries.{Changes}
use Rattle.ode_value.specs.Keys.{counters_key}
use Rattle.ode_value.specs.declared.key.Key.{Key}

-- the least key of a batch, or that of the counters where it has none
abbrev pub first_key : Changes → Key
first_key [] = counters_key
first_key (c ∷ cs) = c.0

-- what holds where a batch was refused
abbrev pub OnRefusal : {A : Type 0} → Result A HeapError → Type 0 → Type 0
OnRefusal (Err Memory) P = P
OnRefusal (Err (TooLarge total)) P = P
OnRefusal _ P = Unit {0}

-- what holds where it is refused for its size
abbrev pub OnTooLarge : {A : Type 0} → Result A HeapError → (ℕ → Type 0) → Type 0
OnTooLarge (Err (TooLarge total)) P = P total
OnTooLarge _ P = Unit {0}
