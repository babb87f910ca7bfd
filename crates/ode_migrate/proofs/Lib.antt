pub mod Beside
pub mod Paged
pub mod Renewed
pub mod Staging
pub mod Moved
pub mod Migrating
