pub mod Calling
pub mod Claiming
pub mod Holding
pub mod Leaving
pub mod Refusing
pub mod Reopening
pub mod Running
