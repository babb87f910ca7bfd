pub mod WordTokens
pub mod MarkTokens
pub mod NumberTokens
pub mod TextTokens
pub mod ReferenceTokens
