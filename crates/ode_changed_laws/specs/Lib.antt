pub mod Changed
pub mod Known
pub mod Records
