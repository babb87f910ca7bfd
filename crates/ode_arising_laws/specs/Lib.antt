pub mod Arising
