pub mod EndLaws
pub mod KeptLaws
pub mod MachineLaws
pub mod MovedLaws
pub mod PlacedLaws
pub mod TriggerLaws
pub mod PlaceLaws
