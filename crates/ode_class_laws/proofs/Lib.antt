pub mod GoodLaws
pub mod HeldLaws
pub mod Insertion
pub mod Stands
pub mod StoredLaws
