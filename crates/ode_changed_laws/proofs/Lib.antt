pub mod Blocks
pub mod FewParts
pub mod HeldChanged
pub mod Insertions
pub mod Same
pub mod SettledChanges
pub mod TreesRead
pub mod Weighing
