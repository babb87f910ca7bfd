mod Blocks
mod Walks
mod Fronts
mod OneKind
mod Sections
mod Reading
mod Numbered
mod Literals
mod Stored
mod StoredVersions
mod StoredQueue
pub mod Sorts
mod Passing
mod Own
