pub mod Contents
pub mod Digits
pub mod Examples
pub mod FirstMark
pub mod Lexing
pub mod Words
