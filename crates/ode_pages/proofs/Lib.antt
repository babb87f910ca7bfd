pub mod Decoding
pub mod Keeping
pub mod Loading
pub mod Moving
pub mod Paging
pub mod Parting
