-- What fits a file's header.
use Rattle.std.specs.Prelude.{◌==◌, ℕ, List}
use Rattle.ode_gate.specs.Slots.{Counts}
use Rattle.ode_gate.specs.declared.header.Header.{Header}
use Rattle.ode_gate.specs.declared.places.TheConstants.{FIRST_FORMAT}
pub use Rattle.ode_resting_laws.specs.Showing.{FitsFirst}
use Rattle.ode_value.specs.Worlds.{Bones}

-- the world has a form in the file's format
abbrev pub FitsFile : List ℕ → Bones → Type 0
FitsFile image b = (header : Header) → Counts image header → FitsFirst (header.format == FIRST_FORMAT) b
