pub mod Collapse
pub mod Marking
pub mod Minimal
pub mod Sources
