pub mod ChangeMoves
pub mod Collecting
pub mod Lookups
pub mod Moves
pub mod Once
pub mod RunMoves
pub mod StaysStable
