pub mod Ending
pub mod Lines
pub mod Plain
pub mod Steps
