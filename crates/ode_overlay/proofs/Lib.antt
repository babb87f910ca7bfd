pub mod Batches
pub mod Counts
pub mod Looks
pub mod Maps
pub mod Objects
pub mod Rising
pub mod Slots
