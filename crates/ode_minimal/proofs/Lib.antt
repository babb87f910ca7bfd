pub mod AlikeLaws
pub mod SourceLaws
pub mod MarkLaws
pub mod CollapseLaws
pub mod ShrinkLaws
