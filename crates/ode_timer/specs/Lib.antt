pub mod Dates
pub mod Due
pub mod Counts
