pub mod Adding
pub mod Declared
