pub mod MomentLaws
pub mod Stable
