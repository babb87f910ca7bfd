pub mod Checking
pub mod Rows
pub mod Texts
pub mod Answers
pub mod Errors
pub mod Lookups
