pub mod Grown
pub mod Cut
pub mod Found
pub mod Verdicts
