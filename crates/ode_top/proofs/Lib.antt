pub mod Asking
pub mod Following
pub mod Fresh
pub mod Generating
pub mod Inspecting
pub mod Questioning
pub mod Refusing
pub mod Shipping
