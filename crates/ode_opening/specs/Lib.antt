pub mod Births
pub mod Declaring
pub mod Cutting
pub mod Classes
pub mod Building
pub mod Accepting
pub mod Trees
