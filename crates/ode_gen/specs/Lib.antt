pub mod Generating
pub mod Reading
