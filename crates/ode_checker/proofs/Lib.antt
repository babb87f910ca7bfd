pub mod DeclaringLaws
pub mod EventLaws
pub mod MemberLaws
pub mod StaticLaws
pub mod VariableLaws
