-- What records that hold a world are opened to.
use Rattle.std.specs.Prelude.{◌≡◌, ◌≤◌, ℕ, [], Bool, true, false, map}
pub use Rattle.ode_opening_laws.specs.Holding.{class_of, stored_tables}
use Rattle.ode_opening_records.specs.Reading.{base_of}
use Rattle.ode_opening_records.specs.declared.base.Base.{Base}
use Rattle.ode_value.specs.Limits.{first_weight_limit}
use Rattle.ode_value.specs.Tables.{Table}
use Rattle.ode_value.specs.Weights.{weight}
use Rattle.ode_value.specs.Worlds.{Bones}

-- its classes with the tables of their triggers, and its weight
abbrev pub world_base : (ℕ → ℕ → Table) → Bones → Base
world_base tables b = record (base_of (map class_of b.classes) (stored_tables tables b.classes) 0) { bytes = weight b }

-- where records are of the first format, no field was added, and that format's limit is kept
abbrev pub FitsFirst : Bool → Bones → Type 0
FitsFirst true b = (b.added ≡ []) × (weight b ≤ first_weight_limit)
FitsFirst false b = Unit {0}
