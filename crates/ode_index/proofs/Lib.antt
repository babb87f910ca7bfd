pub mod OrderLaws
pub mod Finding
pub mod SortLaws
