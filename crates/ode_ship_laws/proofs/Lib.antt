pub mod Telling
pub mod Decoding
pub mod Forming
pub mod Holding
