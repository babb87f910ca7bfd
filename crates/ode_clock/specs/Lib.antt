pub mod Clocking
pub mod Ticked
