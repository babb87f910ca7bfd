pub mod Answers
pub mod Compiling
