-- A page in memory: its bytes, how many entries there are, and where they end.
use Rattle.std.specs.Prelude.{◌≡◌, ◌≤◌, ℕ, ◌+◌, List, length}
use Rattle.ode_keep.specs.Entries.{Entries}
use Rattle.ode_pages.specs.declared.layout.TheConstants.{COUNT_LEN, MAX_SIZE, MIN_SIZE}
use Rattle.ode_pages.specs.Pages.{IsPage, entries_need}

-- the bytes are the page of these entries, so many, which end at this byte
pub record HoldsPage (size : ℕ) (entries : Entries) (bytes : List ℕ) (count end : ℕ) : Type 0 where
  pub page : IsPage size entries bytes
  pub many : count ≡ length entries
  pub ends : end ≡ COUNT_LEN + entries_need entries
  pub least : MIN_SIZE ≤ size
  pub most : size ≤ MAX_SIZE
