-- Which values a record has room for.
use Rattle.std.specs.Prelude.{ℕ, List, Bool, nat_le}
use Rattle.ode_value.specs.Lengths.{values_length, version_size}
use Rattle.ode_value.specs.Limits.{args_limit, value_limit}
use Rattle.ode_value.specs.declared.value.Value.{Value}

-- all fields of a version of this stamp
unfoldable pub are_fields : ℕ → List Value → Bool
are_fields stamp values = nat_le (version_size stamp values) value_limit

-- arguments of an activation or an entry
unfoldable pub are_args : List Value → Bool
are_args values = nat_le (values_length values) args_limit
