pub mod RunningLaws
mod WholeLaws
pub mod PointLaws
