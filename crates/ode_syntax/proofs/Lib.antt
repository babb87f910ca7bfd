pub mod Contents
pub mod Readings
