pub mod Puts
pub mod ClassRows
pub mod Weighing
