pub mod Changing
pub mod Errors
pub mod Fitting
