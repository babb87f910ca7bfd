pub mod Keyed
pub mod Batches
pub mod Through
pub mod Completing
pub mod Others
