pub mod Making
pub mod Ranges
pub mod Slots
pub mod Telling
