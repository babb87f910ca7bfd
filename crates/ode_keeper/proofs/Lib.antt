pub mod Started
pub mod Fitting
pub mod Held
