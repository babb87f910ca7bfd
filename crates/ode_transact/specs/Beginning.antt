-- How a transaction begins.
use Rattle.std.specs.Prelude.{Bool, true, false}
use Rattle.ode_overlay.specs.declared.origin.Origin.{Origin}
use Rattle.ode_overlay.specs.declared.origin.Origin.TheVariants as from

-- it comes from an entry of the queue
abbrev pub comes_from_entry : Origin → Bool
comes_from_entry (from.Entry number generation) = true
comes_from_entry _ = false
