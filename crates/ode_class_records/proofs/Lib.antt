pub mod ClimbLaws
pub mod HeadLaws
pub mod PieceLaws
pub mod PutLaws
pub mod RowLaws
pub mod Weighed
