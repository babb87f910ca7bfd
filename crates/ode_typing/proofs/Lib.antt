pub mod SlotLaws
pub mod StatementLaws
