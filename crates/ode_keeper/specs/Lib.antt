pub mod Files
pub mod Holding
pub mod OneMap
pub mod Laws
