-- Footprints grow: nothing is taken off one.
use Rattle.std.specs.Prelude.{◌≡◌, ℕ, true}
use Rattle.ode_footprint_laws.specs.Agreeing.{IsAmong}
use Rattle.ode_value.specs.Footprints.{Footprint}

-- what was looked at, drawn or queued by the first was so by the second
pub record Grown (f g : Footprint) : Type 0 where
  pub looked : (id : ℕ) → IsAmong id f.looked → IsAmong id g.looked
  pub drew : f.drew ≡ true → g.drew ≡ true
  pub queued : f.queued ≡ true → g.queued ≡ true
