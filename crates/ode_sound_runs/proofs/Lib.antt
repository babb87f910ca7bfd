pub mod AddLaws
pub mod TypedRuns
