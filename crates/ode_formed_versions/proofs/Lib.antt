mod PlaceLaws
mod VersionLaws
