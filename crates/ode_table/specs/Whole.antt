-- Tables whose parts fit each other.
use Rattle.std.specs.Prelude.{◌≡◌, ◌<◌, ◌*◌, length, slice_index, EachIndex}
use Rattle.ode_value.specs.Tables.{Table}

-- there is a state, each has a row and an answer, and each number in a row is that of a state
pub record IsWhole (t : Table) : Type 0 where
  pub some : 0 < t.states
  pub rows : length t.next ≡ t.states * t.symbols
  pub answers : length t.yes ≡ t.states
  pub numbers : EachIndex t.next (λ k. slice_index t.next k < t.states)
