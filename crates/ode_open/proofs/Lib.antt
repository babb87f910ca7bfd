pub mod AllBytes
pub mod One
pub mod Refusing
pub mod Synced
