pub mod HeightLaws
pub mod Lowest
pub mod Completions
pub mod Depths
