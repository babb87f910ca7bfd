pub mod Texts
pub mod Rows
pub mod PhraseRows
pub mod PhraseTexts
pub mod Decomposed
