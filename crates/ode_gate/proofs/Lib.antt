pub mod Changing
pub mod Counting
pub mod Fronts
pub mod Gates
pub mod Slotted
pub mod Spelling
