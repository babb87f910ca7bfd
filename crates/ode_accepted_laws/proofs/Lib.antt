pub mod Accepted
pub mod Along
pub mod FieldLaws
pub mod Lines
pub mod Listing
pub mod Lists
pub mod Members
pub mod Rules
