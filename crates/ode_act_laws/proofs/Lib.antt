pub mod ReadsLaws
pub mod ShownLaws
