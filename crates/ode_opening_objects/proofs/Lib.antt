pub mod ClimbLaws
pub mod StateLaws
pub mod Places
pub mod Gathering
pub mod Parts
pub mod Checking
