-- The bytes of records that hold a world, as what begins a run names them.
pub use Rattle.ode_transact.proofs.RecordLaws.{queue_room, records_weigh}
