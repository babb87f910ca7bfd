pub mod SpelledLaws
pub mod AmongLaws
pub mod FormedLaws
pub mod ObjectLaws
pub mod ActiveLaws
pub mod StoredLaws
