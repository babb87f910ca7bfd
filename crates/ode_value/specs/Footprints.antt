-- What a transaction looked at and drew, and whether it met the queue: all that it can know of a world besides its classes.
use Rattle.std.specs.Prelude.{ℕ, List, [], Bool, true, false, ◌||◌}
use Rattle.std.specs.BTreeSet.{insert_key}
use Rattle.std.specs.List.{fold}
use Rattle.std.specs.Ordering.{nat_cmp}

-- The numbers of the objects that it looked at, each once, in rising order; whether it drew a number of an object or an activation or
-- found none left; whether a firing of it was collected or dropped.
pub record Footprint : Type 0 where
  pub looked : List ℕ
  pub drew : Bool
  pub queued : Bool

-- at its start
abbrev pub no_footprint : Footprint
no_footprint = record { looked = []; drew = false; queued = false }

-- with these objects looked at
abbrev pub with_looks : List ℕ → Footprint → Footprint
with_looks ids f = record f { looked = fold (insert_key nat_cmp) f.looked ids }

-- with a number that is asked for, where one is
abbrev pub with_draw : Bool → Footprint → Footprint
with_draw asked f = record f { drew = asked || f.drew }

-- with a firing that was collected or dropped
abbrev pub with_queue : Footprint → Footprint
with_queue f = record f { queued = true }
