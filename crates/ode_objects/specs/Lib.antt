pub mod Heap
pub mod Values
pub mod Objects
pub mod Tracked
pub mod Loading
pub mod Records
pub mod Rewinding
pub mod Weights
