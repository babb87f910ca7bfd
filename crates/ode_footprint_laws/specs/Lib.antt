pub mod Agreeing
pub mod Fresh
pub mod Growing
pub mod Staying
