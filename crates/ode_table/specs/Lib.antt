pub mod Built
pub mod Whole
