pub mod CleanLists
pub mod CleanRows
pub mod CleanPoints
pub mod CleanWorlds
pub mod CleanLast
