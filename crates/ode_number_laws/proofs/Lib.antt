pub mod Lasting
pub mod Firsts
pub mod Steps
