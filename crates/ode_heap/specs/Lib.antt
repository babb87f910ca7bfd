pub mod Answers
pub mod Looking
pub mod Walking
pub mod Objects
pub mod Activations
pub mod Queue
pub mod Staging
pub mod Answering
