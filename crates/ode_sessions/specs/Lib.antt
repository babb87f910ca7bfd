pub mod Lines
pub mod Running
pub mod Speaking
pub mod Usage
