pub mod Taking
pub mod Frames
