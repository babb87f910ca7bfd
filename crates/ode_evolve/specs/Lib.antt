pub mod Texts
pub mod Evolving
