pub mod Joining
pub mod Searching
pub mod Passed
pub mod Tallied
