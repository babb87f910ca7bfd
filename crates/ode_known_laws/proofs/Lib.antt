pub mod HeldLaws
pub mod FormedLaws
pub mod KnownLaws
mod LightLaws
mod RewoundLaws
mod TakenLaws
