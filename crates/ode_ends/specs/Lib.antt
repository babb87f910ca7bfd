pub mod Resting
pub mod Statuses
pub mod Endings
