pub mod Alphabets
pub mod Reading
pub mod Places
