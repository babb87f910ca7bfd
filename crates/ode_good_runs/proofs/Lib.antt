pub mod Changing
pub mod Declaring
pub mod DueLaws
pub mod Fresh
pub mod Going
pub mod GoodRuns
pub mod Literals
