pub mod ClimbLaws
pub mod AddedLaws
pub mod RowLaws
mod BatchLaws
mod PostedLaws
