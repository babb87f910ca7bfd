-- What is known of a database in a pass over its records.
use Rattle.std.specs.Prelude.{ℕ, Bool, List}
use Rattle.ode_codec.specs.declared.record.Counters.{Counters}
use Rattle.ode_value.specs.declared.class.Class.{Class}
use Rattle.ode_opening_objects.specs.declared.head.Head.{Head}
use Rattle.ode_opening_objects.specs.declared.states.States.{States}

-- Its next numbers, its classes, which numbers activations have, which states of their tables words lead to, and its objects.
pub record Known : Type 0 where
  pub counters : Counters
  pub classes : List Class
  pub numbers : List (ℕ × Bool)
  pub states : States
  pub heads : List (ℕ × Head)
