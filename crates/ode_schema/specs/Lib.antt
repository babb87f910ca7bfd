pub mod Parts
pub mod Cursors
