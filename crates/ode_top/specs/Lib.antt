pub mod Answers
pub mod Calls
pub mod Claims
pub mod Following
pub mod Opening
pub mod Stops
