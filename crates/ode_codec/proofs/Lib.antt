mod Loop
mod Joins
mod Names
mod FormatLaws
mod ValueLaws
pub mod CounterLaws
mod RecordLaws
mod Decodes
mod StoredLengths
