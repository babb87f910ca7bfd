mod VersionLaws
mod SpacedLaws
mod PositionLaws
mod DeriveLaws
mod DropLaws
mod WriteLaws
mod HeadLaws
mod ReadLaws
pub mod SumLaws
mod SettledLaws
mod HeldLaws
pub mod TrackedMaps
mod RememberLaws
pub mod CallLaws
mod KeepLaws
pub mod EachLaws
mod HaveLaws
pub mod RewoundRows
mod RewindLaws
mod RewoundVersions
mod WeightLaws
mod GrowthLaws
