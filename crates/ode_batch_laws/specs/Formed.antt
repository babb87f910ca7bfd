-- Formed overlays, as what stands on their batches names them.
pub use Rattle.ode_settling_laws.specs.Formed.{IsFormed}
