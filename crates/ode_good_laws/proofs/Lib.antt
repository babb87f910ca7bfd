pub mod ClockRuns
pub mod DistinctLaws
pub mod Distincts
pub mod GoodAgain
pub mod PastLaws
