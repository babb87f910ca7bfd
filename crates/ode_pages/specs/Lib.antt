pub mod Holding
pub mod Pages
pub mod Parts
pub mod Readings
