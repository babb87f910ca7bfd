pub mod HeldLaws
pub mod PlaceLaws
