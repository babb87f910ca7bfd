pub mod Opens
pub mod Rising
