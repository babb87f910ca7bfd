pub mod TerminalLaws
pub mod Follows
pub mod Least
pub mod Runs
pub mod Places
pub mod Steps
