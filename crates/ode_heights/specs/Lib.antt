pub mod Effects
pub mod Heights
pub mod Lowest
pub mod Depths
