pub mod Changed
pub mod Distinct
pub mod Well
