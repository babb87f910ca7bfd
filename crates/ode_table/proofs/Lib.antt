pub mod BuiltLaws
pub mod RunLaws
pub mod Steps
