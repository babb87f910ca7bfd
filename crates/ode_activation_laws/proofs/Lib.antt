pub mod ChangedLaws
mod OnLaws
mod OffLaws
