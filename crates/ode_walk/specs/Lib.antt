pub mod Relation
pub mod Search
pub mod Reaching
