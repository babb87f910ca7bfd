-- The room of fields, as what stands on the overlay names it.
pub use Rattle.ode_objects.proofs.Kept.{fields_room}
