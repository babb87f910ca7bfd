pub mod Frames
pub mod Payloads
pub mod Streams
pub mod Cuts
