pub mod Hearing
pub mod Running
pub mod Shipping
pub mod Unread
pub mod Tallies
