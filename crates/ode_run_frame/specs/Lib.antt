pub mod Reads
pub mod Knowing
