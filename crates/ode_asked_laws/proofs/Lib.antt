pub mod Checked
pub mod EventNumbers
pub mod Numbered
