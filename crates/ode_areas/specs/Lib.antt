pub mod Image
pub mod Holding
pub mod OneMap
pub mod Puts
pub mod Steps
pub mod Ready
pub mod Laws
