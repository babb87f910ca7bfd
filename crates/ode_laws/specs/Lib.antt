pub mod Alike
pub mod Bounds
pub mod Counted
pub mod Numbered
pub mod Sized
