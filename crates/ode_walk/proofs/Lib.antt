pub mod VisitLaws
pub mod SearchLaws
pub mod RelationLaws
pub mod ReachingLaws
pub mod FrontLaws
pub mod OrderLaws
