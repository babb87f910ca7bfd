-- The sessions of a script.
use Rattle.std.specs.Prelude.{Option, Some, None}
use Rattle.ode_value.specs.Language.{ListWorld, ListTx}

-- a world, and perhaps an open transaction over it
pub record Session : Type 0 where
  pub world : ListWorld
  pub open_tx : Option ListTx

-- a session without an open transaction
abbrev pub closed : ListWorld → Session
closed w = record { world = w; open_tx = None }

-- a session with one
abbrev pub opened : ListWorld → ListTx → Session
opened w x = record { world = w; open_tx = Some x }
