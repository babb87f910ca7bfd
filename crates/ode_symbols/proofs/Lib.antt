pub mod ConditionLists
pub mod ConditionMarks
pub mod DistinctLaws
pub mod OwnConditions
