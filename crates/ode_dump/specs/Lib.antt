pub mod Names
pub mod Lines
pub mod Order
pub mod Dumping
pub mod Passing
pub mod Searching
pub mod Examples
