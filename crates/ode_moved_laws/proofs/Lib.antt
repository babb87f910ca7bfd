pub mod MovedChecks
