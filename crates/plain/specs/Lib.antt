pub mod Birth
pub mod Rows
pub mod Keeping
pub mod Meaning
