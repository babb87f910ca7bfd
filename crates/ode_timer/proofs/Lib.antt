pub mod DateLaws
pub mod Divisors
pub mod Places
