pub mod NumberLaws
pub mod TriggerLaws
mod FirstLaws
