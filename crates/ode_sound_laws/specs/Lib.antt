pub mod Fits
pub mod Growing
pub mod Nulls
pub mod Sound
pub mod Typed
