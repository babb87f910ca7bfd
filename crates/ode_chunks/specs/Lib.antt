pub mod Chunked
pub mod Cuts
