pub mod BothLaws
pub mod VerdictLaws
pub mod HistoryLaws
pub mod ComparingLaws
pub mod TextLaws
