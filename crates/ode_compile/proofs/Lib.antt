pub mod AnswerLaws
pub mod LeastLaws
pub mod LimitLaws
pub mod NumberLaws
pub mod TriggerLaws
