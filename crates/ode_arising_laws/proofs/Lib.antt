mod FiringLaws
pub mod GoingLaws
mod HadLaws
mod ShownLaws
