pub mod Meeting
pub mod Serial
