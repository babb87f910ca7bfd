pub mod Ahead
pub mod Answers
pub mod Appends
pub mod Filling
pub mod Frames
pub mod Histories
pub mod Starting
