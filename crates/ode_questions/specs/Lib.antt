pub mod Saying
pub mod Scripts
pub mod Answers
pub mod Steps
pub mod Versions
