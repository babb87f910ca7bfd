pub mod Denoting
pub mod Showing
pub mod Remembering
pub mod Leaving
pub mod Growing
