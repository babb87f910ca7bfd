mod Values
pub mod Classes
mod States
mod Readable
mod Shown
