pub mod Weighing
pub mod Placing
pub mod Counting
pub mod Settling
pub mod SettlingChanges
pub mod SettlingNothing
pub mod Holding
