pub mod AtRest
