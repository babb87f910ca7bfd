pub mod PartLaws
pub mod KeptLaws
pub mod AnswerLaws
pub mod FreshLaws
