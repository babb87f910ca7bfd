pub mod Cut
pub mod Declared
pub mod Built
pub mod BirthLaws
pub mod Listing
pub mod Calm
pub mod Grown
