pub mod Differing
pub mod Texts
pub mod Parts
pub mod Comparing
