-- A key leads to the page in which its value stands.
use Rattle.std.specs.Prelude.{◌≡◌, ℕ, List, Some}
use Rattle.ode_gate.specs.declared.header.Header.{Header}
use Rattle.ode_value.specs.declared.key.Key.{Key}
use Rattle.ode_keep.specs.Entries.{Entries, value_under}
use Rattle.ode_paging.specs.Images.{Image}
use Rattle.ode_paging.specs.Standing.{HasPage}

-- the page has a value under the key, which is the one that these records have there
pub record LeadsTo (header : Header) (images : List Image) (file : List ℕ) (key : Key) (page : ℕ) (records : Entries) : Type 0 where
  pub entries : Entries
  pub stands : HasPage header images file page entries
  pub value : List ℕ
  pub here : value_under entries key ≡ Some value
  pub there : value_under records key ≡ Some value
