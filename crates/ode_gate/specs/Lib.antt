pub mod Headers
pub mod Slots
pub mod Readings
pub mod Changes
