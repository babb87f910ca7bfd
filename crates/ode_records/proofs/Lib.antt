pub mod Kinding
pub mod Firsts
pub mod Lengths
pub mod Spelling
