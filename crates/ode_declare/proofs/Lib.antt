pub mod BatchLaws
mod TurnLaws
pub mod TakeLaws
mod DeclareLaws
pub mod WeighLaws
