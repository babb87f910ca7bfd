pub mod Kept
pub mod ShortValues
mod Sums
mod TakenOver
