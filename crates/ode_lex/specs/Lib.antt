pub mod Marks
pub mod Numerals
pub mod Texts
pub mod Tokens
