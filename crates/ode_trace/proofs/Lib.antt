pub mod EngineLaws
pub mod HearingLaws
pub mod MachineLaws
pub mod ShipLaws
pub mod ShippedLaws
pub mod RunLaws
pub mod RunsLaws
pub mod TallyLaws
