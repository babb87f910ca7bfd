pub mod Years
pub mod MarchDays
pub mod InstantTexts
