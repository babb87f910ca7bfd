pub mod AnewChecked
pub mod AnewClasses
pub mod AnewScopes
pub mod AnewTriggers
pub mod AnewWays
pub mod LowMasks
pub mod WatchedChanges
