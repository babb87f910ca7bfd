pub mod Standing
pub mod Productions
pub mod Phrases
