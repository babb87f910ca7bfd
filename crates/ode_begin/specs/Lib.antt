pub mod Answers
pub mod Claims
pub mod Holds
pub mod Opening
pub mod Stops
pub mod Words
