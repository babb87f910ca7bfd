pub mod Behind
pub mod Moves
pub mod Plain
pub mod Rows
