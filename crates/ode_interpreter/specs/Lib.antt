pub mod Calling
pub mod Creating
pub mod Seen
pub mod Settled
pub mod Touching
