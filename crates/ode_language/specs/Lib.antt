pub mod Reading
pub mod Languages
pub mod Answers
pub mod Texts
