pub mod Rules
pub mod Answers
pub mod Walking
pub mod Records
pub mod Tally
pub mod Complete
pub mod Steps
