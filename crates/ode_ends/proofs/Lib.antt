pub mod CallLaws
pub mod ItemLaws
pub mod RecordLaws
pub mod StatusLaws
