pub mod Chained
pub mod Once
pub mod AnyFormat
