-- The front of the queue.
use Rattle.std.specs.Prelude.{ℕ, List, [], ◌∷◌, Option, Some, None}
use Rattle.ode_codec.specs.declared.record.Entry as stored
use Rattle.ode_heap.specs.Answering.{entry_of}
use Rattle.ode_value.specs.Worlds.{Entry}

-- the first entry with its number, as a record has it
abbrev pub front_of : List (ℕ × Entry) → Option (ℕ × stored.Entry)
front_of [] = None
front_of (q ∷ queue) = Some (q.0, entry_of q.1)
