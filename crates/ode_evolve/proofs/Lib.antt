pub mod Births
pub mod ChangeLaws
pub mod ChangedLaws
