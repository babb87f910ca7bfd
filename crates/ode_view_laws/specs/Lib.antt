pub mod Ordering
pub mod Putting
pub mod Showing
pub mod Viewing
