pub mod DeepLaws
pub mod ReadingLaws
