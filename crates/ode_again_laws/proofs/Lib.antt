pub mod Reading
pub mod Words
pub mod First
pub mod Again
pub mod Numbered
pub mod Parameters
pub mod Changed
