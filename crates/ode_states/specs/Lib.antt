pub mod Advance
pub mod Machine
