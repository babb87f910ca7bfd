pub mod KeySets
pub mod BeginLaws
pub mod AlteredLaws
pub mod FollowingLaws
pub mod ObjectLaws
pub mod TouchLaws
pub mod MakingLaws
pub mod CollectLaws
