pub mod Few
pub mod Agreeing
