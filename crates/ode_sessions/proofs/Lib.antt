pub mod CarryLaws
pub mod PlacesLaws
pub mod RunLaws
pub mod RunsLaws
pub mod SessionLaws
pub mod SpokenLaws
