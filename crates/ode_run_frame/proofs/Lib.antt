pub mod Lent
pub mod SoundReads
