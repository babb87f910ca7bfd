-- How many entries wait.
use Rattle.std.specs.Prelude.{ℕ, ◌^◌, ◌-◌, min}
use Rattle.ode_keep.specs.Entries.{Entries, count_of_kind}
use Rattle.ode_value.specs.Keys.{entry_kind}

-- all entries, as far as 32 bits count
unfoldable pub queued_in : Entries → ℕ
queued_in entries = min (count_of_kind entry_kind entries) (2 ^ 32 - 1)
