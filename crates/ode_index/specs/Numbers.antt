-- The numbers that stand beside a value.
use Rattle.std.specs.Prelude.{ℕ, List, ◌↔◌, map}
use Rattle.std.specs.List.{Contains}
use Rattle.std.specs.List.Sorted.{IsPermutation, IsSortedByKey, IsStrictlyIncreasing}
use Rattle.ode_value.specs.declared.value.Value.{Value}
use Rattle.ode_index.specs.Order.{value_cmp}
use Rattle.ode_index.specs.declared.index.Index.{Index}

-- each number beside the value, once, in rising order
pub record AreNumbers (rows : List (Value × ℕ)) (v : Value) (numbers : List ℕ) : Type 0 where
  pub rising : IsStrictlyIncreasing numbers
  pub are : (n : ℕ) → Contains numbers n ↔ Contains rows (v, n)

-- the value and the number of a row
abbrev pub value_of : Value × ℕ → Value
value_of row = row.0

abbrev pub number_of : Value × ℕ → ℕ
number_of row = row.1

-- of rows these are those of a value, by their numbers
abbrev pub IsBeside : Value → List (Value × ℕ) → List (Value × ℕ) → Type 0
IsBeside v rows same = (n : ℕ) → Contains (map number_of same) n ↔ Contains rows (v, n)

-- the index is of these rows: it has them in the order of their values
pub record IsOf (rows : List (Value × ℕ)) (index : Index) : Type 0 where
  pub same : IsPermutation rows index.rows
  pub sorted : IsSortedByKey value_of value_cmp index.rows
