-- What records count together.
use Rattle.std.specs.Prelude.{◌≡◌}
use Rattle.ode_value.specs.Keys.{entry_kind}
use Rattle.ode_keep.specs.Entries.{Entries, count_of_kind, record_bytes}
use Rattle.ode_paging.specs.declared.sums.Sums.{Sums}

-- so many bytes the keys and values of these records have, and so many of them are entries of the queue
pub record AreSums (sums : Sums) (records : Entries) : Type 0 where
  pub bytes : sums.bytes ≡ record_bytes records
  pub queued : sums.queued ≡ count_of_kind entry_kind records
