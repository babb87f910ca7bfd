pub mod StepLaws
pub mod LiteralLaws
pub mod TellingLaws
pub mod QueryLaws
pub mod SayingLaws
pub mod ScriptLaws
