pub mod Heads
pub mod Fitting
pub mod Triggers
pub mod States
pub mod Objects
pub mod Numbers
pub mod Known
pub mod Scenes
