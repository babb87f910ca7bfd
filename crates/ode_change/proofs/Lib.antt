pub mod Fitted
pub mod Gathers
pub mod Judged
pub mod Knowing
pub mod Over
pub mod Putting
pub mod Taken
pub mod Weighed
