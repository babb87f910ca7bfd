pub mod KindLaws
pub mod ApartLaws
pub mod QueueLaws
pub mod CounterLaws
pub mod KeptLaws
pub mod PartLaws
pub mod SettledLaws
