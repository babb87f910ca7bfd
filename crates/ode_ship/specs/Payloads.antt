-- The changes of a payload, behind their number.
use Rattle.std.specs.Prelude.{◌≤◌, ℕ, List, length}
use Rattle.ode_value.specs.Keys.{key_cmp}
use Rattle.ode_keep.specs.Counted.{IsCountedList}
use Rattle.ode_keep.specs.Entries.{Changes}
use Rattle.ode_keep.specs.Payloads.{change_bytes}
use Rattle.ode_keep.specs.declared.limits.TheConstants.{MAX_CHANGES}
use Rattle.ode_ship.specs.Frames.{IsShipped}

-- the bytes spell these changes, which are few
pub record AreShipped (changes : Changes) (bytes : List ℕ) : Type 0 where
  pub spelled : IsCountedList change_bytes IsShipped key_cmp changes bytes
  pub few : length changes ≤ MAX_CHANGES
