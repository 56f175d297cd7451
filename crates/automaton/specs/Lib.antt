pub mod Histories
pub mod Birth
pub mod Meaning
