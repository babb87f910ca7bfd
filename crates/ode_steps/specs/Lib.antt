pub mod Trying
pub mod Serving
