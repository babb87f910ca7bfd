pub mod PlaceLaws
mod NumberLaws
mod StayLaws
mod CallLaws
mod KeepLaws
pub mod RewoundLaws
