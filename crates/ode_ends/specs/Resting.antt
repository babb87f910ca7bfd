-- What an opened file at rest holds, as what begins and ends runs names it.
pub use Rattle.ode_transact.specs.Logging.{DiskHas}
pub use Rattle.ode_transact.specs.Resting.{HoldsBy, IsAtRest, resting_parts}
