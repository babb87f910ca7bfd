pub mod Chunking
pub mod Cutting
pub mod Halving
pub mod Placing
pub mod Reading
pub mod Spelling
